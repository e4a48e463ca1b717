use Rattle.std.proofs.Common.{◌<◌, ◌≤◌, List, length, get_or, ap, subst, ◌∙◌}
use Rattle.std.specs.Prelude.{option_map}
use Rattle.cjc_export.specs.Bytes.Breaks.{at}
use Rattle.cjc_export.specs.Bytes.Told.{break_of}
use Rattle.cjc_export.proofs.BytesFirsts.{at_same, each_all, each_more, each_none}
use Rattle.cjc_compat.specs.Rules.{at_method, is_lost_method}
use Rattle.cjc_export.specs.declared.tree.ExportMethod.{ExportMethod}
use Rattle.cjc_compat.proofs.versions.methods_break.Goals as goal

pub loop-place-init : goal.loop-place-init
loop-place-init c = λ f n e. each_none (λ i (m : ExportMethod). at (is_lost_method c.args.new.now.methods m)
    (at_method f n c.args.old.now i m) 743) c.args.old.now.methods

pub loop-place-preserved : goal.loop-place-preserved
loop-place-preserved c = λ f n e.
    let i = c.loop-place.place in
    let within = subst (λ (xs : List ExportMethod). i < length xs) c.items-methods.ensures c.loop-place-test.true in
    let is = c.index-methods-place.is ∙ ap (λ (xs : List ExportMethod). get_or xs i c.index-methods-place.result)
    c.items-methods.ensures in
    each_more (λ i (m : ExportMethod). at (is_lost_method c.args.new.now.methods m) (at_method f n c.args.old.now i m)
    743)
    i c.args.old.now.methods c.index-methods-place.result (option_map break_of c.first-least.result) within is
    (c.first-least.ensures _ _ (c.loop-place.invariant f n e)
    (at_same 743 _ (c.is_lost_method.ensures ∙ ap (λ (xs : List ExportMethod). is_lost_method xs
    c.index-methods-place.result) c.items.ensures) (c.method_spot-spot.ensures f n e) c.broken.ensures))

pub returns : goal.returns
returns c = λ f n e.
    let past = subst (λ (xs : List ExportMethod). length xs ≤ c.loop-place.place) c.items-methods.ensures
    c.loop-place-test.false in
    each_all (λ i (m : ExportMethod). at (is_lost_method c.args.new.now.methods m) (at_method f n c.args.old.now i m)
    743)
    c.loop-place.place c.args.old.now.methods (option_map break_of c.loop-place.least) past (c.loop-place.invariant f n
    e)
