use Rattle.std.proofs.Common.{◌<◌, ◌≤◌, List, length, get_or, ap, subst, ◌∙◌}
use Rattle.std.specs.Prelude.{option_map}
use Rattle.cjc_export.specs.Bytes.Breaks.{at}
use Rattle.cjc_export.specs.Bytes.Told.{break_of}
use Rattle.cjc_export.proofs.BytesFirsts.{at_same, each_all, each_more, each_none}
use Rattle.cjc_compat.specs.Rules.{at_field, is_lost_field}
use Rattle.cjc_export.specs.declared.tree.ExportField.{ExportField}
use Rattle.cjc_compat.proofs.versions.fields_break.Goals as goal

pub loop-place-init : goal.loop-place-init
loop-place-init c = λ f n e. each_none (λ i (m : ExportField). at (is_lost_field c.args.new.now.fields m)
    (at_field f n c.args.old.now i m) 743) c.args.old.now.fields

pub loop-place-preserved : goal.loop-place-preserved
loop-place-preserved c = λ f n e.
    let i = c.loop-place.place in
    let within = subst (λ (xs : List ExportField). i < length xs) c.items-fields.ensures c.loop-place-test.true in
    let is = c.index-fields-place.is ∙ ap (λ (xs : List ExportField). get_or xs i c.index-fields-place.result)
    c.items-fields.ensures in
    each_more (λ i (m : ExportField). at (is_lost_field c.args.new.now.fields m) (at_field f n c.args.old.now i m) 743)
    i c.args.old.now.fields c.index-fields-place.result (option_map break_of c.first-least.result) within is
    (c.first-least.ensures _ _ (c.loop-place.invariant f n e)
    (at_same 743 _ (c.is_lost_field.ensures ∙ ap (λ (xs : List ExportField). is_lost_field xs
    c.index-fields-place.result) c.items.ensures) (c.field_spot-spot.ensures f n c.args.old.now e) c.broken.ensures))

pub returns : goal.returns
returns c = λ f n e.
    let past = subst (λ (xs : List ExportField). length xs ≤ c.loop-place.place) c.items-fields.ensures
    c.loop-place-test.false in
    each_all (λ i (m : ExportField). at (is_lost_field c.args.new.now.fields m) (at_field f n c.args.old.now i m) 743)
    c.loop-place.place c.args.old.now.fields (option_map break_of c.loop-place.least) past (c.loop-place.invariant f n
    e)
