use Rattle.std.proofs.Common.{◌≡◌, ◌∙◌, sym, ap, refl}
use Rattle.std.specs.Prelude.{option_and_then}
use Rattle.cjc_world.specs.Classes.{all_classes}
use Rattle.cjc_jvm_semantics.specs.OnePackage.{method_at}
use Rattle.cjc_jvm_semantics.specs.Group.{group_sent, joint}
use Rattle.cjc_jvm_link.specs.Found.{hit_of}
use Rattle.cjc_jvm_link.proofs.Grouping.{is_sent, none_sent}
use Rattle.cjc_jvm_link.proofs.group.GroupLinks.sent_named.Goals as goal

pub returns-then-not-is_sent : goal.returns-then-not-is_sent
returns-then-not-is_sent c =
    let all = c.self.inside.links.files in
    let files : all ≡ joint c.args.self.now.group = c.self.invariant ∙ ap (λ g. joint g.group) c.self.view_is in
    let hit = hit_of c.in-Some.method.owner in
    none_sent all (all_classes all) c.args.type_name.now c.args.id.now c.in-Some.method.found hit c.in-Some.ensures.0
    c.in-Some.ensures.1 (sym (c.is_sent.ensures hit refl) ∙ c.if-not-is_sent.true)
    ∙ ap (λ f. group_sent f (all_classes f) c.args.type_name.now c.args.id.now) files

pub returns : goal.returns
returns c =
    let all = c.self.inside.links.files in
    let files : all ≡ joint c.args.self.now.group = c.self.invariant ∙ ap (λ g. joint g.group) c.self.view_is in
    let hit = hit_of c.in-Some.method.owner in
    c.selected_method.ensures
    ∙ ap (λ s. option_and_then (method_at all) (s c.args.type_name.now c.args.id.now))
    (sym (c.wanted_for.ensures (all_classes all)))
    ∙ is_sent all (all_classes all) c.args.type_name.now c.args.id.now c.in-Some.method.found hit c.in-Some.ensures.0
    c.in-Some.ensures.1 (sym (c.is_sent.ensures hit refl) ∙ c.if-not-is_sent.false)
    ∙ ap (λ f. group_sent f (all_classes f) c.args.type_name.now c.args.id.now) files
