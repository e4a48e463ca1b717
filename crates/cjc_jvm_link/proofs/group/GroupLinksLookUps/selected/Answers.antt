use Rattle.std.proofs.Common.{sym, ap, ◌∙◌}
use Rattle.cjc_world.specs.Classes.{all_classes}
use Rattle.cjc_world.specs.Files.{Files}
use Rattle.cjc_jvm_semantics.specs.OnePackage.{call_by}
use Rattle.cjc_jvm_semantics.specs.Group.{group_linked, joint}
use Rattle.cjc_jvm_step.specs.Step.Names.{selection_of}
use Rattle.cjc_jvm_link.specs.Found.{hit_of}
use Rattle.cjc_jvm_link.specs.Group.{Grouped}
use Rattle.cjc_jvm_link.specs.Wanted.{selection_by}
use Rattle.cjc_jvm_link.proofs.group.GroupLinksLookUps.selected.Goals as goal

pub returns-in-Some : goal.returns-in-Some
unfolding group_linked
returns-in-Some c =
    let holder = c.args.holder.now in
    let op = c.args.op in
    let id = c.args.id.now in
    let method = c.in-Some.method in
    c.callee_by.ensures ∙ ap (λ call. selection_of call c.args.receiver.now)
    (ap (λ (f : Files). call_by f (all_classes f) (selection_by (all_classes f) method.wanted) holder op id method.found
    (hit_of method.owner)) (c.self.invariant ∙ ap (λ (g : Grouped). joint g.group) c.self.view_is)
    ∙ sym (c.in-Some.ensures op))

pub returns-in-None : goal.returns-in-None
unfolding group_linked
returns-in-None c = sym (ap (λ call. selection_of call c.args.receiver.now) (c.in-None.ensures c.args.op))
