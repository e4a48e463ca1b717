use Rattle.std.specs.Prelude.{FitsSigned, Some}
use Rattle.std.specs.Int.{w32}
use Rattle.std.proofs.lemmas.Int.{to_z-of_z}
use Rattle.std.proofs.lemmas.Result.{IfOk-weaker}
use Rattle.cjc_card_semantics.specs.Bytecode.Effects.{New}
use Rattle.cjc_card_semantics.specs.Bytecode.Meanings.{Makes}
use Rattle.cjc_card_semantics.specs.Machine.Operations.{class_by}
use Rattle.cjc_card_frame.specs.Objects.{class_of}
use Rattle.cjc_card_step.specs.Effects.Deeds.{memory}
use Rattle.cjc_card_step.proofs.StepsLaws.Used.{row_as, used_as}
use Rattle.cjc_card_step.proofs.steps.entries.new_named.Goals as goal

pub returns-in-Some-clause-row : goal.returns-in-Some-clause-row
returns-in-Some-clause-row g c =
    let l = g.L.LookUps.loaded c.args.links.now in
    let fits : FitsSigned w32 c.args.index = c.ranges.index in
    let found = simp to_z-of_z at c.in-Some.ensures in
    let is = used_as l c.args.part Makes c.args.index (class_by l c.args.part) New (Some (class_of c.in-Some.class))
    (λ item. c.entries_are_used.ensures.makes l c.args.part item) found in
    IfOk-weaker c.new_object.result _ _ (λ deed h. λ statics. row_as l _ _ c.args.room deed c.args.cells.now
    c.new_object.new.cells (memory c.args.heap.now statics) (memory c.new_object.new.heap statics) is (h statics))
    c.new_object.ensures.row
