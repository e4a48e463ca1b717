use Rattle.std.proofs.Common.{rules}
use Rattle.std.specs.Prelude.{FitsSigned}
use Rattle.std.specs.Int.{w32}
use Rattle.std.proofs.lemmas.Int.{to_z-of_z}
use Rattle.std.proofs.lemmas.Result.{IfOk-weaker}
use Rattle.cjc_card_step.proofs.steps.instruction.use_operand.Goals as goal

pub returns-in-One-clause-row : goal.returns-in-One-clause-row
returns-in-One-clause-row g c =
    let fits : FitsSigned w32 c.in-One.index = search rules in
    rw c.in-One.is (IfOk-weaker c.use_entry.result _ _ (λ deed h. λ at table. h)
    (simp to_z-of_z at c.use_entry.ensures.row))
