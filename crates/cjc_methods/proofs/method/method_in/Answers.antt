use Rattle.std.proofs.Common.{◌≡◌, ◌<◌, ◌-◌, sym, ap, subst, ◌∙◌, List, length}
use Rattle.std.proofs.lemmas.Option.{slice_get_within}
use Rattle.cjc_world.specs.ClassFile.declared.tree.ClassTree.{ClassTree}
use Rattle.cjc_world.specs.Classes.{Member, all_classes, method_of_class}
use Rattle.cjc_components.specs.Descriptor.{method_in}
use Rattle.cjc_methods.proofs.Own.{added_read, like_on, method_read, no_method_read, place_is, tree_at}
use Rattle.cjc_methods.proofs.Owned.{added_method, own_method}
use Rattle.cjc_bytes.proofs.Gets.{at_is}
use Rattle.cjc_methods.proofs.method.method_in.Goals as goal

pub bounds-items-member : goal.bounds-items-member
bounds-items-member c =
    let (t, is, same) = tree_at c.args.world.now c.args.member c.requires in
    subst (λ (ts : List ClassTree). c.args.member.class < length ts) (sym (c.items.ensures ∙ c.classes.ensures))
    (slice_get_within c.args.world.now.classes c.args.member.class t is)

pub returns-then-place-methods : goal.returns-then-place-methods
returns-then-place-methods c = λ k at.
    let files = c.args.world.now in
    let f = c.args.member in
    let class = c.index-items-member.result in
    let method = c.index-methods-place.result in
    let (t, is, same) = tree_at files f c.requires in
    let tree : class ≡ t = at_is c.items.result.now files.classes f.class class t (c.items.ensures ∙ c.classes.ensures)
    is c.index-items-member.is in
    let place = place_is f.member c.saturating_sub-place.result c.items-2.result.now class t
    c.saturating_sub-place.ensures c.items-2.ensures tree in
    let there = method_read c.items-methods.result.now class t c.saturating_sub-place.result
    (f.member - length t.fields) method c.items-methods.ensures tree place c.if-place-methods.true
    c.index-methods-place.is in
    let is_own : method_in (all_classes files) k f.member ≡ method_of_class method =
    own_method (all_classes files) f.class t k f.member method (same k at) there in
    record {
      flags = ap (λ (m : Member). m.flags) (sym is_own);
      name = c.items-then-place-methods.ensures ∙ ap (λ (m : Member). m.name) (sym is_own);
      desc = c.items-then-place-methods-2.ensures ∙ ap (λ (m : Member). m.desc) (sym is_own);
    }

pub added-requires : goal.added-requires
added-requires c =
    let (t, is, same) = tree_at c.args.world.now c.args.member c.requires in
    slice_get_within c.args.world.now.classes c.args.member.class t is

pub returns : goal.returns
returns c = λ k at.
    let files = c.args.world.now in
    let f = c.args.member in
    let class = c.index-items-member.result in
    let (t, is, same) = tree_at files f c.requires in
    let tree : class ≡ t = at_is c.items.result.now files.classes f.class class t (c.items.ensures ∙ c.classes.ensures)
    is c.index-items-member.is in
    let place = place_is f.member c.saturating_sub-place.result c.items-2.result.now class t
    c.saturating_sub-place.ensures c.items-2.ensures tree in
    let none = no_method_read c.items-methods.result.now class t c.saturating_sub-place.result
    (f.member - length t.fields) c.items-methods.ensures tree place c.if-place-methods.false in
    let like = added_method files f.class t k f.member is (same k at) none in
    like_on c.added.result _ _ (method_in (all_classes files) k f.member) c.added.ensures (added_read files f.class
    c.items-methods.result.now class t c.saturating_sub-place.result (f.member - length t.fields)
    c.items-methods.ensures tree place) like
