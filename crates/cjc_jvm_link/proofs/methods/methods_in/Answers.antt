use Rattle.std.proofs.Common.{◌≡◌, ◌<◌, ◌∙◌, ap, subst, get_or, length}
use Rattle.cjc_jvm_semantics.specs.OnePackage.{method_by}
use Rattle.cjc_jvm_link.proofs.Taking.{method_step, map_step}
use Rattle.cjc_jvm_link.proofs.methods.methods_in.Goals as goal

pub method_by-requires-clause-insns : goal.method_by-requires-clause-insns
method_by-requires-clause-insns c =
    let class = c.args.class.now in
    let ms = class.methods in
    let place = c.loop-place.place in
    let tree = c.tree-item.result in
    let inside : place < length ms = subst (λ ys. place < length ys) c.items-tree-items.ensures c.loop-place-test.true
    in
    let is : tree ≡ get_or ms place tree = c.tree-item.is ∙ ap (λ ys. get_or ys place tree) c.items-tree-items.ensures
    in
    c.take-taken.ensures.insns
    ∙ (method_step c.args.number place class ms c.args.later.now c.loop-place.rest.codes.now tree inside is
    c.loop-place.invariant.codes).0

pub loop-place-preserved : goal.loop-place-preserved
loop-place-preserved c =
    let class = c.args.class.now in
    let ms = class.methods in
    let place = c.loop-place.place in
    let tree = c.tree-item.result in
    let inside : place < length ms = subst (λ ys. place < length ys) c.items-tree-items.ensures c.loop-place-test.true
    in
    let is : tree ≡ get_or ms place tree = c.tree-item.is ∙ ap (λ ys. get_or ys place tree) c.items-tree-items.ensures
    in
    record {
      codes = c.take-taken.ensures.rest
          ∙ (method_step c.args.number place class ms c.args.later.now c.loop-place.rest.codes.now tree inside is
          c.loop-place.invariant.codes).1;
      indices = c.take-taken.ensures.indices;
      methods = c.in_ok-push.ensures.ok
          ∙ map_step (λ m. method_by class m m.code) ms place tree c.loop-place.methods c.method_by.result inside is
          c.loop-place.invariant.methods c.method_by.ensures;
    }
