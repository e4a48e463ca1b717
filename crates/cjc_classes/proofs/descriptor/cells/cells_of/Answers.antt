use Rattle.std.proofs.Common.{◌≡◌, List, ◌++◌, map, refl, ap, ◌∙◌}
use Rattle.cjc_bytes.specs.declared.fault.MemberId.{MemberId}
use Rattle.cjc_world.specs.declared.image.ArrayCell.{ArrayCell}
use Rattle.cjc_world.specs.declared.image.ValueCell.{ValueCell}
use Rattle.cjc_components.specs.Statics.{cell_offset, offset_from}
use Rattle.cjc_classes.specs.Descriptor.Working.Cells.{offset_of}
use Rattle.cjc_classes.proofs.DescriptorLaws.Behind.{all_behind}
use Rattle.cjc_classes.proofs.descriptor.cells.cells_of.Goals as goal

pub returns : goal.returns
returns c =
    let arrays : List ArrayCell → List MemberId = λ xs. map (λ (a : ArrayCell). a.field) xs in
    let values : List ValueCell → List MemberId = λ xs. map (λ (v : ValueCell). v.field) xs in
    let is : (f : MemberId) → offset_of c.put_values.new.self f ≡ cell_offset c.args.image.now f = λ f.
    all_behind _ c.put_arrays.new.self c.put_fields.new.self c.put_fields-2.new.self c.put_values.new.self
    (arrays c.items.result.now) c.items-2.result.now c.items-3.result.now (values c.items-4.result.now)
    c.new.ensures.empty refl c.in_ok-put_arrays.ensures c.in_ok-put_fields.ensures c.in_ok-put_fields-2.ensures
    c.in_ok-put_values.ensures f
    ∙ ap (λ (xs : List ArrayCell). offset_from 0 (arrays xs ++ (c.items-2.result.now ++ (c.items-3.result.now
    ++ values c.items-4.result.now))) f) c.items.ensures
    ∙ ap (λ (xs : List MemberId). offset_from 0 (arrays c.args.image.now.arrays
    ++ (xs ++ (c.items-3.result.now ++ values c.items-4.result.now))) f) c.items-2.ensures
    ∙ ap (λ (xs : List MemberId). offset_from 0 (arrays c.args.image.now.arrays ++ (c.args.image.now.nulls
    ++ (xs ++ values c.items-4.result.now))) f) c.items-3.ensures
    ∙ ap (λ (xs : List ValueCell). offset_from 0 (arrays c.args.image.now.arrays ++ (c.args.image.now.nulls
    ++ (c.args.image.now.zeros ++ values xs))) f) c.items-4.ensures in
    (λ i f. is f i)
