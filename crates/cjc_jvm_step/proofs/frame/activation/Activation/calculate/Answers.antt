use Rattle.std.proofs.Common.{◌≡◌, arith, false}
use Rattle.std.specs.Prelude.{◌==◌}
use Rattle.std.proofs.lemmas.Bool.Decides.{nat_tests}
use Rattle.cjc_jvm_step.proofs.frame.activation.Activation.calculate.Goals as goal

pub returns-then-op-eq-INEG : goal.returns-then-op-eq-INEG
returns-then-op-eq-INEG c = let e : c.args.op ≡ 116 = omega arith in rw e c.in_ok-negate.ensures

pub returns : goal.returns
returns c = let e : (c.args.op == 116) ≡ false = grind (arith, nat_tests) in rw e c.in_ok-operate.ensures
