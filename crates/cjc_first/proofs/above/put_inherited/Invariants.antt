use Rattle.std.proofs.Common.{◌≡◌, ◌-◌, ◌++◌}
use Rattle.cjc_first.specs.Above.{by_token, inherited}
use Rattle.cjc_first.proofs.above.put_inherited.Given as goal

abbrev pub invariant-loop-token : goal.invariant-loop-token
invariant-loop-token l = l.methods ++ by_token (128 - l.token) l.token l.root.methods ≡ l.fn.methods ++ inherited l.root
