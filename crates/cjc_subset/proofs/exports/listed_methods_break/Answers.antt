use Rattle.std.proofs.Common.{◌<◌, ◌≤◌, List, length, get_or, ap, subst, ◌∙◌}
use Rattle.std.specs.Prelude.{option_map}
use Rattle.cjc_world.specs.ExportFile.declared.tree.ExportMethod.{ExportMethod}
use Rattle.cjc_bytes.specs.Told.{break_of}
use Rattle.cjc_subset.specs.Exports.{listed_method_breaks}
use Rattle.cjc_bytes.proofs.Firsts.{each_none, each_more, each_all}
use Rattle.cjc_subset.proofs.exports.listed_methods_break.Goals as goal

pub loop-place-init : goal.loop-place-init
loop-place-init c = λ f n e. each_none (λ i (x : ExportMethod). listed_method_breaks f n c.args.class.now i x)
    c.args.class.now.methods

pub loop-place-preserved : goal.loop-place-preserved
loop-place-preserved c = λ f n e.
    let i = c.loop-place.place in
    let within = subst (λ (xs : List ExportMethod). i < length xs) c.items-methods.ensures c.loop-place-test.true in
    let is = c.index-methods-place.is ∙ ap (λ (xs : List ExportMethod). get_or xs i c.index-methods-place.result)
    c.items-methods.ensures in
    each_more (λ i (x : ExportMethod). listed_method_breaks f n c.args.class.now i x) i c.args.class.now.methods
    c.index-methods-place.result (option_map break_of c.first-least.result) within is
    (c.first-least.ensures _ _ (c.loop-place.invariant f n e) (c.listed_method_break.ensures f n e))

pub returns : goal.returns
returns c = λ f n e.
    let past = subst (λ (xs : List ExportMethod). length xs ≤ c.loop-place.place) c.items-methods.ensures
    c.loop-place-test.false in
    each_all (λ i (x : ExportMethod). listed_method_breaks f n c.args.class.now i x) c.loop-place.place
    c.args.class.now.methods (option_map break_of c.loop-place.least) past (c.loop-place.invariant f n e)
