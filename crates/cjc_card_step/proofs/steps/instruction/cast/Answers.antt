use Rattle.std.proofs.Common.{◌∙◌, ap, sym}
use Rattle.std.specs.Prelude.{option_map}
use Rattle.cjc_card_semantics.specs.Bytecode.Effects.{Cast}
use Rattle.cjc_card_semantics.specs.CapRead.Decoder.Decoded.{values}
use Rattle.cjc_card_semantics.specs.Machine.Operations.{or_undone}
use Rattle.cjc_card_step.specs.Effects.Deeds.{memory}
use Rattle.cjc_card_step.proofs.StepsLaws.Used.{casts, row_as}
use Rattle.cjc_card_step.proofs.steps.instruction.cast.Goals as goal

pub returns-in-Some : goal.returns-in-Some
returns-in-Some g c =
    let l = g.L.LookUps.loaded c.args.links.now in
    let w = c.args.cells.now in
    λ at room table statics.
    let is = casts l c.args.part at table (values c.args.operands) ∙ ap (λ t. or_undone (option_map Cast t))
    (sym c.in-Some.ensures) in
    row_as l _ _ room c.check_cast.result w w (memory c.args.heap.now statics) (memory c.args.heap.now statics) is
    (c.check_cast.ensures room statics)
