use Rattle.std.proofs.Common.{◌≡◌, length, take}
use Rattle.std.specs.List.{flat_map}
use Rattle.cjc_capwrite.specs.Size.{capped}
use Rattle.cjc_capwrite.specs.Package.{applet_entry_bytes}
use Rattle.cjc_capwrite.proofs.sizes.applets_size.Given as goal

abbrev pub invariant-loop-entry : goal.invariant-loop-entry
invariant-loop-entry l = l.size ≡ capped (length (flat_map applet_entry_bytes (take l.entry-index l.applets)))
