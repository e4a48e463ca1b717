use Rattle.std.proofs.Common.{drop}
use Rattle.cjc_types.specs.Names.{IsWithin}
use Rattle.cjc_types.proofs.names.has_all.Given as goal

abbrev pub invariant-loop-name : goal.invariant-loop-name
invariant-loop-name l = IsWithin (drop l.name-index l.names) l.set → IsWithin l.names l.set
