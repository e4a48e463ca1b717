use Rattle.std.specs.Prelude.{FitsSigned, Some}
use Rattle.std.specs.Int.{w32}
use Rattle.std.proofs.lemmas.Int.{to_z-of_z}
use Rattle.cjc_card_semantics.specs.Bytecode.Effects.{PutStatic}
use Rattle.cjc_card_semantics.specs.Bytecode.Meanings.{PutsStatic}
use Rattle.cjc_card_frame.specs.Meanings.{letter_of}
use Rattle.cjc_card_frame.specs.Kinds.{cell_by, cell_of}
use Rattle.cjc_card_step.specs.Effects.Deeds.{memory}
use Rattle.cjc_card_step.proofs.StepsLaws.Used.{row_as, used_as}
use Rattle.cjc_card_step.proofs.steps.entries.put_cell.Goals as goal

pub returns-in-Some : goal.returns-in-Some
returns-in-Some g c =
    let l = g.L.LookUps.loaded c.args.links.now in
    let fits : FitsSigned w32 c.args.index = c.ranges.index in
    let found = simp to_z-of_z at c.in-Some.ensures in
    let is = used_as l c.args.part (PutsStatic (letter_of c.args.letter)) c.args.index (cell_by l c.args.part)
    (PutStatic (letter_of c.args.letter)) (Some (cell_of c.in-Some.cell))
    (λ item. c.entries_are_used.ensures.puts_static l c.args.part (letter_of c.args.letter) item) found in
    λ room. λ heap. row_as l _ _ room c.put_static.result c.args.cells.now c.put_static.new.cells
    (memory heap c.args.statics.now) (memory heap c.put_static.new.statics) is (c.put_static.ensures l room heap)
