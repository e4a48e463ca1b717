use Rattle.std.proofs.Common.{◌≡◌, ap, subst, ◌∙◌}
use Rattle.cjc_world.specs.Classes.{all_classes}
use Rattle.cjc_world.specs.Supertypes.{line}
use Rattle.cjc_world.specs.Working.Places.{IsWalk}
use Rattle.cjc_jvm_link.specs.Wanted.{own_by}
use Rattle.cjc_jvm_link.proofs.links.Links.first_above.Goals as goal

pub returns : goal.returns
returns c =
    let files : c.self.inside.world.now ≡ c.args.self.now.files = ap (λ k. k.files) c.self.view_is in
    c.first_at.ensures
    ∙ (subst (λ f. IsWalk (all_classes f) (line (all_classes f) c.args.class.now) c.line_above.result.now) files
    c.line_above.ensures) (own_by c.args.wanted c.args.id.now.name c.args.id.now.desc)
