use Rattle.std.proofs.Common.{◌≡◌, ℕ, List, sym, ap, subst, ◌∙◌}
use Rattle.std.specs.Prelude.{None}
use Rattle.cjc_world.specs.Classes.{all_classes}
use Rattle.cjc_jvm_semantics.specs.OnePackage.{call_by, method_hit}
use Rattle.cjc_jvm_semantics.specs.Group.{call_from, joint}
use Rattle.cjc_jvm_link.specs.Found.{hit_of}
use Rattle.cjc_jvm_link.specs.Wanted.{selection_by}
use Rattle.cjc_jvm_link.specs.declared.group.GroupLinks.TheInside.{Inside}
use Rattle.cjc_jvm_link.proofs.Grouping.{called, not_joint_hit}
use Rattle.cjc_jvm_link.proofs.group.GroupLinks.method_from.Goals as goal

pub returns-in_default-owner_of-2 : goal.returns-in_default-owner_of-2
returns-in_default-owner_of-2 c =
    let all = c.self.inside.links.files in
    let files : all ≡ joint c.args.self.now.group = c.self.invariant ∙ ap (λ g. joint g.group) c.self.view_is in
    let same = ap (λ (g : Inside). let links = g.links in links.files) c.self-inside.view_is in
    let found = c.in-Some-joint_method.found in
    let none = ap (λ f. method_hit (all_classes f) found) (sym same) ∙ sym c.in_default-owner_of-2.ensures in
    subst (λ f. (holder : List ℕ) (op : ℕ) → call_from f (all_classes f) holder op c.args.id.now c.args.asker.now ≡
    None)
    files (λ holder op. not_joint_hit all (all_classes all) c.args.id.now c.args.asker.now holder op c.in-Some.found
    (sym c.in-Some.ensures) (hit_of c.in-Some-owner_of.owner) (sym c.in-Some-owner_of.ensures) found
    (sym c.in-Some-joint_method.ensures) none)

pub returns : goal.returns
returns c =
    let all = c.self.inside.links.files in
    let files : all ≡ joint c.args.self.now.group = c.self.invariant ∙ ap (λ g. joint g.group) c.self.view_is in
    let same = ap (λ (g : Inside). let links = g.links in links.files) c.self-inside.view_is in
    let found = c.in-Some-joint_method.found in
    let hit = hit_of c.in-Some-owner_of-2.owner in
    let there = ap (λ f. method_hit (all_classes f) found) (sym same) ∙ sym c.in-Some-owner_of-2.ensures in
    subst (λ f. (holder : List ℕ) (op : ℕ) → call_from f (all_classes f) holder op c.args.id.now c.args.asker.now
    ≡ call_by f (all_classes f) (selection_by (all_classes f) c.wanted_for.result) holder op c.args.id.now found hit)
    files (λ holder op. called all (all_classes all) c.args.id.now c.args.asker.now holder op c.in-Some.found
    (sym c.in-Some.ensures) (hit_of c.in-Some-owner_of.owner) (sym c.in-Some-owner_of.ensures) found
    (sym c.in-Some-joint_method.ensures) hit there
    ∙ ap (λ s. call_by all (all_classes all) s holder op c.args.id.now found hit) (c.wanted_for.ensures (all_classes
    all)))
