use Rattle.std.proofs.Common.{◌≡◌, ◌∙◌, ap, sym, rules}
use Rattle.std.specs.Prelude.{FitsSigned, Some, option_map}
use Rattle.std.specs.Int.{w32}
use Rattle.std.proofs.lemmas.Int.{to_z-of_z}
use Rattle.std.proofs.lemmas.Result.{IfOk-weaker}
use Rattle.cjc_card_semantics.specs.Bytecode.Effects.{NewNumbers}
use Rattle.cjc_card_semantics.specs.Bytecode.Meanings.{MakesNumbers}
use Rattle.cjc_card_semantics.specs.Machine.Operations.{operation, or_undone}
use Rattle.cjc_card_frame.specs.Objects.{element_of}
use Rattle.cjc_card_frame.specs.Kinds.{pool_of}
use Rattle.cjc_card_step.specs.Effects.Deeds.{memory}
use Rattle.cjc_card_semantics.specs.CapRead.Decoder.Decoded.{values}
use Rattle.cjc_card_step.proofs.StepsLaws.Used.{makes_numbers, row_as}
use Rattle.cjc_card_step.proofs.steps.instruction.new_array.Goals as goal

pub returns-in-Some-element_type-clause-row : goal.returns-in-Some-element_type-clause-row
returns-in-Some-element_type-clause-row c =
    let z = c.in-One.number in
    let fits : FitsSigned w32 z = search rules in
    let natural_is = simp to_z-of_z at c.in-Some.ensures in
    let n = c.in-Some.number in
    IfOk-weaker c.new_numbers.result _ _ (λ deed h. λ l p at table statics.
    let is : operation l p (pool_of l p) at MakesNumbers (values c.args.operands) table
    ≡ NewNumbers (element_of c.in-Some-element_type.element) =
    ap (λ o. operation l p (pool_of l p) at MakesNumbers (values o) table) c.in-One.is
    ∙ makes_numbers l p at table z (Some n) natural_is
    ∙ ap (λ t. or_undone (option_map NewNumbers t)) (sym c.in-Some-element_type.ensures) in
    row_as l _ _ c.args.room deed c.args.cells.now c.new_numbers.new.cells (memory c.args.heap.now statics)
    (memory c.new_numbers.new.heap statics) is (h l statics)) c.new_numbers.ensures.row
