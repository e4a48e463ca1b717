use Rattle.std.proofs.Common.{ℕ, List, ◌+◌, ◌++◌, drop, ap, ◌∙◌}
use Rattle.cjc_world.specs.ClassFile.declared.tree.FieldTree.{FieldTree}
use Rattle.cjc_classes.proofs.DescriptorLaws.Rows.{each_next}
use Rattle.cjc_verify.specs.Made.{inputs_of}
use Rattle.cjc_verify.specs.WantedMembers.{field_if, fields_by}
use Rattle.cjc_verify.proofs.described.made.fields_of.Goals as goal

pub loop-place-preserved : goal.loop-place-preserved
loop-place-preserved c =
    let q = inputs_of c.args.made.now in
    let n = c.args.number in
    let name = c.args.class.now.name in
    let fs = c.items-fields.result.now in
    let i = c.loop-place.place in
    let x = c.index-fields-place.result in
    ap (λ r. r ++ fields_by q n name (i + 1) (drop (i + 1) fs))
    (c.in_ok-put_field.ensures
    ∙ ap (λ (m : List ℕ). c.loop-place.row ++ field_if q n m i x) c.items.ensures
    ∙ ap (λ (y : FieldTree). c.loop-place.row ++ field_if q n name i y) c.index-fields-place.is)
    ∙ each_next (field_if q n name) c.loop-place.row fs i x _ c.loop-place-test.true c.loop-place.invariant
