use Rattle.std.proofs.Common.{ℕ, List, ap, ◌∙◌}
use Rattle.std.specs.Prelude.{slice_get}
use Rattle.cjc_card_semantics.specs.CapRead.declared.tree.ClassInfo.{ClassInfo}
use Rattle.cjc_card_semantics.specs.Machine.Classes.{offset_from}
use Rattle.cjc_card_link.specs.Infos.{infos_in}
use Rattle.cjc_card_link.proofs.InfoPlaces.{found_is_small, offset_place}
use Rattle.cjc_card_link.proofs.infos.Infos.offset_of.Goals as goal

pub returns-clause-offset : goal.returns-clause-offset
returns-clause-offset c =
    c.number_at.ensures
    ∙ ap (λ (ys : List ℕ). slice_get ys c.args.number) (c.items.ensures ∙ c.self.invariant.begin)
    ∙ offset_place 2 (infos_in c.self.inside.class.now) c.args.number
    ∙ ap (λ (k : ClassInfo). offset_from 2 (infos_in k) c.args.number) c.self.view_is

pub returns-clause-small : goal.returns-clause-small
returns-clause-small c =
    found_is_small c.self.inside.class.now c.args.number c.number_at.result c.self.invariant.small
    (c.number_at.ensures ∙ ap (λ (ys : List ℕ). slice_get ys c.args.number) (c.items.ensures ∙ c.self.invariant.begin)
    ∙ offset_place 2 (infos_in c.self.inside.class.now) c.args.number)
