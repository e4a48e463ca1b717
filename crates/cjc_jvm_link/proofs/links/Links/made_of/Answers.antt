use Rattle.std.proofs.Common.{◌≡◌, ◌∙◌, ap, sym, true, map}
use Rattle.std.specs.Prelude.{option_map}
use Rattle.cjc_world.specs.Classes.{all_classes}
use Rattle.cjc_world.specs.Working.Known.{class_of}
use Rattle.cjc_jvm_semantics.specs.OnePackage.{is_made, made_of}
use Rattle.cjc_jvm_semantics.specs.Effects.{fresh_field}
use Rattle.cjc_jvm_link.proofs.Keeping.{made_there}
use Rattle.cjc_jvm_link.proofs.links.Links.made_of.Goals as goal

pub returns-in-Some : goal.returns-in-Some
returns-in-Some c =
    let name = c.args.name.now in
    let files : c.self.inside.world.now ≡ c.args.self.now.files = ap (λ k. k.files) c.self.view_is in
    let made : is_made (class_of c.in-Some.class) ≡ true = sym c.is_made.ensures ∙ c.if-is_made.true in
    c.get.ensures
    ∙ made_there (all_classes c.self.inside.world.now) c.self.inside.fresh name (class_of c.in-Some.class)
    (sym c.in-Some.ensures.named) made c.self.invariant.are_fresh c.self.invariant.has_all
    ∙ ap (λ f. option_map (λ ids. map fresh_field ids) (made_of (all_classes f) name)) files
