use Rattle.std.proofs.Common.{ℕ, List, map, ap, ◌∙◌}
use Rattle.std.proofs.lemmas.List.{take_all}
use Rattle.cjc_bytes.specs.declared.fault.MemberId.{MemberId}
use Rattle.cjc_bytes.proofs.Gets.{rows_next}
use Rattle.cjc_world.specs.ClassFile.declared.tree.ClassTree.{ClassTree}
use Rattle.cjc_components.specs.LowerClinit.Image.{field_id}
use Rattle.cjc_classes.specs.Descriptor.Working.Cells.{offset_of}
use Rattle.cjc_classes.proofs.descriptor.cells.cell_offsets.Goals as goal

pub loop-class-preserved : goal.loop-class-preserved
loop-class-preserved c =
    let row : ClassTree → List ℕ = λ d. map (λ f. offset_of c.in_ok-cells.cells (field_id d.name f)) d.fields in
    c.in_ok-push.ensures.ok
    ∙ rows_next row c.loop-class.rows c.args.classes.now c.loop-class.class-index c.class-item.result
    c.in_ok-offsets_in.field-0 c.loop-class-test.true c.class-item.is c.in_ok-offsets_in.ensures
    c.loop-class.invariant

pub returns : goal.returns
returns c =
    let rows : (MemberId → ℕ) → List ClassTree → List (List ℕ) =
    λ offset classes. map (λ (d : ClassTree). map (λ f. offset (field_id d.name f)) d.fields) classes in
    c.loop-class.invariant
    ∙ ap (rows (offset_of c.in_ok-cells.cells)) (take_all c.loop-class.class-index c.args.classes.now
    c.loop-class-test.false)
    ∙ ap (λ (offset : MemberId → ℕ). rows offset c.args.classes.now) c.in_ok-cells.ensures
