use Rattle.std.proofs.Common.{rules}
use Rattle.std.specs.Prelude.{FitsSigned}
use Rattle.std.specs.Int.{w32}
use Rattle.std.proofs.lemmas.Int.{to_z-of_z}
use Rattle.std.proofs.lemmas.Result.{IfOk-weaker}
use Rattle.cjc_card_step.proofs.steps.instruction.jump.Goals as goal

pub returns-in-One : goal.returns-in-One
returns-in-One c =
    let fits : FitsSigned w32 c.in-One.far = search rules in
    rw c.in-One.is (IfOk-weaker c.branch-cells.result _ _ (λ step h. λ l p table room m. h l room m)
    (simp to_z-of_z at c.branch-cells.ensures))
