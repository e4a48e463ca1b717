use Rattle.std.proofs.Common.{ℕ, List, map, sym, ap, ◌∙◌}
use Rattle.std.specs.Prelude.{Bool, None, Option, option_map, if◌then◌else◌}
use Rattle.cjc_world.specs.Classes.{Class, all_classes}
use Rattle.cjc_world.specs.Files.{Files}
use Rattle.cjc_jvm_step.specs.Script.declared.report.FieldValue.{FieldValue}
use Rattle.cjc_jvm_semantics.specs.Effects.{fresh_field}
use Rattle.cjc_jvm_semantics.specs.OnePackage.{made_of}
use Rattle.cjc_jvm_semantics.specs.Group.{group_linked, joint}
use Rattle.cjc_jvm_link.specs.Group.{Grouped}
use Rattle.cjc_jvm_link.proofs.group.GroupLinksLookUps.made.Goals as goal

-- the fields of a new object, where the package that asks has the class
abbrev made_where : List Class → (class : List ℕ) → (known : Bool) → Option (List FieldValue)
made_where w class known = option_map (λ ids. map fresh_field ids) (if known then made_of w class else None)

pub returns-then-not-have_class : goal.returns-then-not-have_class
unfolding group_linked
returns-then-not-have_class c =
    let w = all_classes (joint c.args.self.now.group) in
    sym (ap (made_where w c.args.class.now) (sym c.have_class.ensures ∙ c.if-not-have_class.true))

pub returns : goal.returns
unfolding group_linked
returns c =
    let w = all_classes (joint c.args.self.now.group) in
    c.made_of.ensures
    ∙ ap (λ (f : Files). option_map (λ ids. map fresh_field ids) (made_of (all_classes f) c.args.class.now))
    (c.self.invariant ∙ ap (λ (g : Grouped). joint g.group) c.self.view_is)
    ∙ sym (ap (made_where w c.args.class.now) (sym c.have_class.ensures ∙ c.if-not-have_class.false))
