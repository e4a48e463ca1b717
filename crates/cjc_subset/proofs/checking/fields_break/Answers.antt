use Rattle.std.proofs.Common.{◌<◌, ◌≤◌, List, length, get_or, ap, subst, ◌∙◌}
use Rattle.std.specs.Prelude.{option_map}
use Rattle.cjc_code.specs.ClassFile.declared.tree.FieldTree.{FieldTree}
use Rattle.cjc_bytes.specs.Told.{break_of}
use Rattle.cjc_subset.specs.Checks.{field_breaks}
use Rattle.cjc_bytes.proofs.Firsts.{each_none, each_more, each_all}
use Rattle.cjc_subset.proofs.checking.fields_break.Goals as goal

pub loop-place-init : goal.loop-place-init
loop-place-init c = λ f e. each_none (λ i (x : FieldTree). field_breaks c.args.settings.now f c.args.class.now i x)
    c.args.class.now.fields

pub loop-place-preserved : goal.loop-place-preserved
loop-place-preserved c = λ f e.
    let i = c.loop-place.place in
    let within = subst (λ (xs : List FieldTree). i < length xs) c.items-fields.ensures c.loop-place-test.true in
    let is = c.index-fields-place.is ∙ ap (λ (xs : List FieldTree). get_or xs i c.index-fields-place.result)
    c.items-fields.ensures in
    each_more (λ i (x : FieldTree). field_breaks c.args.settings.now f c.args.class.now i x) i c.args.class.now.fields
    c.index-fields-place.result (option_map break_of c.first-least.result) within is
    (c.first-least.ensures _ _ (c.loop-place.invariant f e) (c.field_break.ensures f e))

pub returns : goal.returns
returns c = λ f e.
    let past = subst (λ (xs : List FieldTree). length xs ≤ c.loop-place.place) c.items-fields.ensures
    c.loop-place-test.false in
    each_all (λ i (x : FieldTree). field_breaks c.args.settings.now f c.args.class.now i x) c.loop-place.place
    c.args.class.now.fields (option_map break_of c.loop-place.least) past (c.loop-place.invariant f e)
