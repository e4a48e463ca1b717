use Rattle.std.proofs.Common.{◌≡◌, drop}
use Rattle.cjc_check_tables.specs.Members.Working.Needs.{greater, need_of_methods}
use Rattle.cjc_check_tables.proofs.members.needs.need_of_methods.Given as goal

abbrev pub invariant-loop-method : goal.invariant-loop-method
invariant-loop-method l = greater l.need (need_of_methods (drop l.method-index l.methods)) ≡ need_of_methods l.methods
