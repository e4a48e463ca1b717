use Rattle.std.proofs.Common.{◌≡◌, ◌++◌, take, map, replicate}
use Rattle.std.specs.Prelude.{Some, None}
use Rattle.cjc_jvm_step.proofs.frame.calls.locals_of.Given as goal

abbrev pub invariant-loop-arg : goal.invariant-loop-arg
invariant-loop-arg l = l.locals.items ≡ map (λ v. Some v) (take l.arg-index l.args)

abbrev pub invariant-loop-i : goal.invariant-loop-i
invariant-loop-i l = l.locals.items ≡ map (λ v. Some v) l.args ++ replicate l.i None
