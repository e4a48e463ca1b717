use Rattle.std.proofs.Common.{◌∙◌, ap, List}
use Rattle.std.specs.Prelude.{slice_set, []}
use Rattle.cjc_classes.specs.declared.descriptor.parts.Extent.{Extent}
use Rattle.cjc_captree.proofs.ExtentsLaws.Items.{set_twice}
use Rattle.cjc_classes.proofs.BytesGets.{any_default}
use Rattle.cjc_captree.proofs.extents.rows.put.Goals as goal

pub returns-then-class-rows : goal.returns-then-class-rows
returns-then-class-rows c =
    let rows = c.args.rows.now in
    let n = c.args.class in
    set_twice rows n _ c.with_item.result
    ∙ ap (slice_set rows n) (c.with_item.ensures ∙ ap (λ (r : List Extent). slice_set r c.args.member c.args.extent)
    (c.replace-row.ensures.value ∙ any_default rows n c.index-rows-class.result [] c.if-class-rows.true))
