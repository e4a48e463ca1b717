use Rattle.std.proofs.Common.{◌≡◌, ◌++◌, drop}
use Rattle.cjc_vtable.specs.Tables.{methods}
use Rattle.cjc_vtable.proofs.entries.methods.Given as goal

abbrev pub invariant-loop-entry : goal.invariant-loop-entry
invariant-loop-entry l = l.found ++ methods (drop l.entry-index l.entries) ≡ methods l.entries
