use Rattle.std.specs.Prelude.{FitsSigned, Some}
use Rattle.std.specs.Int.{w32}
use Rattle.std.proofs.lemmas.Int.{to_z-of_z}
use Rattle.std.proofs.lemmas.Result.{IfOk-weaker}
use Rattle.cjc_card_semantics.specs.Bytecode.Effects.{Get}
use Rattle.cjc_card_semantics.specs.Bytecode.Meanings.{Gets}
use Rattle.cjc_card_frame.specs.Meanings.{letter_of}
use Rattle.cjc_card_frame.specs.Objects.{field_of}
use Rattle.cjc_card_frame.specs.Kinds.{field_by}
use Rattle.cjc_card_step.specs.Effects.Deeds.{memory}
use Rattle.cjc_card_step.proofs.StepsLaws.Used.{row_as, used_as}
use Rattle.cjc_card_step.proofs.steps.entries.get_named.Goals as goal

pub returns-in-Some : goal.returns-in-Some
returns-in-Some g c =
    let l = g.L.LookUps.loaded c.args.links.now in
    let fits : FitsSigned w32 c.args.index = c.ranges.index in
    let found = simp to_z-of_z at c.in-Some.ensures in
    let is = used_as l c.args.part (Gets c.args.this (letter_of c.args.letter)) c.args.index (field_by l c.args.part)
    (Get c.args.this (letter_of c.args.letter)) (Some (field_of c.in-Some.field))
    (λ item. c.entries_are_used.ensures.gets l c.args.part c.args.this (letter_of c.args.letter) item) found in
    IfOk-weaker c.get_field.result _ _ (λ deed h. λ statics. row_as l _ _ c.args.room deed c.args.cells.now
    c.get_field.new.cells (memory c.args.heap.now statics) (memory c.args.heap.now statics) is (h l statics))
    c.get_field.ensures
