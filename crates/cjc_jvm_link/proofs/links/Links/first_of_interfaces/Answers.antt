use Rattle.std.proofs.Common.{◌≡◌, false, [], ◌∷◌, ap, subst, ◌∙◌}
use Rattle.cjc_world.specs.Classes.{all_classes}
use Rattle.cjc_world.specs.Interfaces.{gathered, known}
use Rattle.cjc_world.specs.Supertypes.{supertypes}
use Rattle.cjc_world.specs.Working.Places.{IsWalk}
use Rattle.cjc_jvm_link.specs.Wanted.{own_by}
use Rattle.cjc_jvm_link.proofs.links.Links.first_of_interfaces.Goals as goal

pub returns : goal.returns
returns c =
    let files : c.self.inside.world.now ≡ c.args.self.now.files = ap (λ k. k.files) c.self.view_is in
    c.first_at.ensures
    ∙ (subst (λ f. IsWalk (all_classes f) (known (gathered false (supertypes (all_classes f) (c.args.class.now ∷ []))))
    c.interfaces_above.result.now) files c.interfaces_above.ensures) (own_by c.args.wanted c.args.id.now.name
    c.args.id.now.desc)
