use Rattle.std.proofs.Common.{◌≡◌, ◌+◌, drop}
use Rattle.cjc_vtable.specs.Tables.{base}
use Rattle.cjc_vtable.proofs.entries.base.Given as goal

abbrev pub invariant-loop-token : goal.invariant-loop-token
invariant-loop-token l = l.token + base l.class (drop l.token l.row) ≡ base l.class l.row
