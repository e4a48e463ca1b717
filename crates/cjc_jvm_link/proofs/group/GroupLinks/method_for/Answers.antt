use Rattle.std.proofs.Common.{◌≡◌, ℕ, false, sym, ap, ◌∙◌}
use Rattle.cjc_world.specs.Classes.{all_classes}
use Rattle.cjc_jvm_semantics.specs.OnePackage.{is_initialiser}
use Rattle.cjc_jvm_semantics.specs.Group.{call_from, files_of_class, group_call, joint}
use Rattle.cjc_jvm_link.proofs.Grouping.{asked, on_match}
use Rattle.cjc_jvm_link.proofs.group.GroupLinks.method_for.Goals as goal

pub returns-in-Some : goal.returns-in-Some
returns-in-Some c =
    let files = joint c.args.self.now.group in
    let holder = c.args.holder.now in
    let plain : is_initialiser c.args.id.now.name ≡ false = ap is_initialiser (sym c.items.ensures) ∙ sym
    c.is_initialiser.ensures ∙ c.if-is_initialiser.false in
    let step : (op : ℕ) → group_call files (all_classes files) holder op c.args.id.now
    (files_of_class c.args.self.now.group holder) ≡ call_from files (all_classes files) holder op c.args.id.now
    c.in-Some.asker.now = λ op. asked files (all_classes files) c.args.id.now c.in-Some.asker.now holder op plain
    c.in-Some.ensures in
    on_match c.method_from.result (λ none op. step op ∙ none holder op) (λ m some op. step op ∙ some holder op)
    c.method_from.ensures
