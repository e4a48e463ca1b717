use Rattle.std.proofs.Common.{◌∙◌, ap, sym}
use Rattle.std.specs.Prelude.{option_map}
use Rattle.std.proofs.lemmas.Result.{IfOk-weaker}
use Rattle.cjc_card_semantics.specs.Bytecode.Effects.{Ask}
use Rattle.cjc_card_semantics.specs.CapRead.Decoder.Decoded.{values}
use Rattle.cjc_card_semantics.specs.Machine.Operations.{or_undone}
use Rattle.cjc_card_step.specs.Effects.Deeds.{memory}
use Rattle.cjc_card_step.proofs.StepsLaws.Used.{asks, row_as}
use Rattle.cjc_card_step.proofs.steps.instruction.ask.Goals as goal

pub returns-in-Some : goal.returns-in-Some
returns-in-Some g c =
    let l = g.L.LookUps.loaded c.args.links.now in
    IfOk-weaker c.instance_of.result _ _ (λ deed h. λ at room table statics.
    let is = asks l c.args.part at table (values c.args.operands) ∙ ap (λ t. or_undone (option_map Ask t))
    (sym c.in-Some.ensures) in
    row_as l _ _ room deed c.args.cells.now c.instance_of.new.cells (memory c.args.heap.now statics)
    (memory c.args.heap.now statics) is (h room statics)) c.instance_of.ensures
