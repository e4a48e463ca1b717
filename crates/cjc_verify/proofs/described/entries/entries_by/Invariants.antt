use Rattle.std.proofs.Common.{◌≡◌, map, take}
use Rattle.cjc_verify.specs.WantedDescribed.{wanted_entry}
use Rattle.cjc_verify.proofs.described.entries.entries_by.Given as goal

abbrev pub invariant-loop-entry : goal.invariant-loop-entry
invariant-loop-entry l = l.row ≡ map (wanted_entry l.pair) (take l.entry-index l.entries)
