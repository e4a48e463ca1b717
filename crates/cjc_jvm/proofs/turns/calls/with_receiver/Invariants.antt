use Rattle.std.proofs.Common.{◌≡◌, ◌∷◌, take}
use Rattle.cjc_jvm_step.specs.Script.declared.value.Value.TheVariants.{Obj}
use Rattle.cjc_jvm.proofs.turns.calls.with_receiver.Given as goal

abbrev pub invariant-loop-arg : goal.invariant-loop-arg
invariant-loop-arg l = l.row ≡ Obj l.number ∷ take l.arg-index l.args
