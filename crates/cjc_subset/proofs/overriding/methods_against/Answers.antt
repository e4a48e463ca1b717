use Rattle.std.proofs.Common.{◌<◌, ◌≤◌, List, length, get_or, ap, subst, ◌∙◌}
use Rattle.std.specs.Prelude.{option_map}
use Rattle.cjc_code.specs.ClassFile.declared.tree.MethodTree.{MethodTree}
use Rattle.cjc_world.specs.Working.Known.{class_of}
use Rattle.cjc_bytes.specs.Told.{break_of}
use Rattle.cjc_subset.specs.Overriding.{method_against}
use Rattle.cjc_bytes.proofs.Firsts.{each_none, each_more, each_all}
use Rattle.cjc_subset.proofs.overriding.methods_against.Goals as goal

pub loop-place-init : goal.loop-place-init
loop-place-init c = λ f e. each_none (λ i (x : MethodTree). method_against f c.args.class.now (class_of c.args.known) i
    x) c.args.class.now.methods

pub loop-place-preserved : goal.loop-place-preserved
loop-place-preserved c = λ f e.
    let i = c.loop-place.place in
    let within = subst (λ (xs : List MethodTree). i < length xs) c.items-methods.ensures c.loop-place-test.true in
    let is = c.index-methods-place.is ∙ ap (λ (xs : List MethodTree). get_or xs i c.index-methods-place.result)
    c.items-methods.ensures in
    each_more (λ i (x : MethodTree). method_against f c.args.class.now (class_of c.args.known) i x) i
    c.args.class.now.methods c.index-methods-place.result (option_map break_of c.first-least.result) within is
    (c.first-least.ensures _ _ (c.loop-place.invariant f e) (c.method_against.ensures f e))

pub returns : goal.returns
returns c = λ f e.
    let past = subst (λ (xs : List MethodTree). length xs ≤ c.loop-place.place) c.items-methods.ensures
    c.loop-place-test.false in
    each_all (λ i (x : MethodTree). method_against f c.args.class.now (class_of c.args.known) i x) c.loop-place.place
    c.args.class.now.methods (option_map break_of c.loop-place.least) past (c.loop-place.invariant f e)
