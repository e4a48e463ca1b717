use Rattle.std.proofs.Common.{◌≡◌, drop}
use Rattle.cjc_subset.specs.Limits.{noted}
use Rattle.cjc_subset.proofs.interfaces.note.Given as goal

abbrev pub invariant-loop-name : goal.invariant-loop-name
invariant-loop-name l = noted l.known (drop l.name-index l.names) ≡ noted l.initial.known l.names
