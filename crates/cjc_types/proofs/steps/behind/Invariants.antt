use Rattle.std.proofs.Common.{◌≡◌, ◌++◌, drop}
use Rattle.cjc_types.specs.Steps.{stack_behind}
use Rattle.cjc_types.proofs.steps.behind.Given as goal

abbrev pub invariant-loop-k : goal.invariant-loop-k
invariant-loop-k l = l.cells ++ drop l.k l.stack ≡ stack_behind l.op l.locals l.stack
