use Rattle.std.specs.Prelude.{FitsSigned, Some}
use Rattle.std.specs.Int.{w32}
use Rattle.std.proofs.lemmas.Int.{to_z-of_z}
use Rattle.cjc_card_semantics.specs.Bytecode.Effects.{Put}
use Rattle.cjc_card_semantics.specs.Bytecode.Meanings.{Puts}
use Rattle.cjc_card_frame.specs.Meanings.{letter_of}
use Rattle.cjc_card_frame.specs.Objects.{field_of}
use Rattle.cjc_card_frame.specs.Kinds.{field_by}
use Rattle.cjc_card_step.specs.Effects.Deeds.{memory}
use Rattle.cjc_card_step.proofs.StepsLaws.Used.{row_as, used_as}
use Rattle.cjc_card_step.proofs.steps.entries.put_named.Goals as goal

pub returns-in-Some-clause-row : goal.returns-in-Some-clause-row
returns-in-Some-clause-row g c =
    let l = g.L.LookUps.loaded c.args.links.now in
    let fits : FitsSigned w32 c.args.index = c.ranges.index in
    let found = simp to_z-of_z at c.in-Some.ensures in
    let is = used_as l c.args.part (Puts c.args.this (letter_of c.args.letter)) c.args.index (field_by l c.args.part)
    (Put c.args.this (letter_of c.args.letter)) (Some (field_of c.in-Some.field))
    (λ item. c.entries_are_used.ensures.puts l c.args.part c.args.this (letter_of c.args.letter) item) found in
    λ room. λ statics. row_as l _ _ room c.put_field.result c.args.cells.now c.put_field.new.cells
    (memory c.args.heap.now statics) (memory c.put_field.new.heap statics) is (c.put_field.ensures.row l room
    statics)
