use Rattle.std.proofs.Common.{ℕ, List, length, ap, ◌∙◌}
use Rattle.cjc_capread.specs.declared.tree.ClassInfo.{ClassInfo}
use Rattle.cjc_card_lookups.specs.Infos.{infos_in}
use Rattle.cjc_card_lookups.proofs.InfoPlaces.{starts_count}
use Rattle.cjc_card_lookups.proofs.infos.Infos.count.Goals as goal

pub returns : goal.returns
returns c =
    ap (λ (ys : List ℕ). length ys) (c.items.ensures ∙ c.self.invariant.begin)
    ∙ starts_count 2 (infos_in c.self.inside.class.now)
    ∙ ap (λ (k : ClassInfo). length (infos_in k)) c.self.view_is
