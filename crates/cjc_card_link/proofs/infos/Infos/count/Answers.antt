use Rattle.std.proofs.Common.{ℕ, List, length, ap, ◌∙◌}
use Rattle.cjc_card_semantics.specs.CapRead.declared.tree.ClassInfo.{ClassInfo}
use Rattle.cjc_card_link.specs.Infos.{infos_in}
use Rattle.cjc_card_link.proofs.InfoPlaces.{count_is_small, starts_count}
use Rattle.cjc_card_link.proofs.infos.Infos.count.Goals as goal

pub returns-clause-count : goal.returns-clause-count
returns-clause-count c =
    ap (λ (ys : List ℕ). length ys) (c.items.ensures ∙ c.self.invariant.begin)
    ∙ starts_count 2 (infos_in c.self.inside.class.now)
    ∙ ap (λ (k : ClassInfo). length (infos_in k)) c.self.view_is

pub returns-clause-small : goal.returns-clause-small
returns-clause-small c =
    count_is_small c.self.inside.class.now _ c.self.invariant.small
    (ap (λ (ys : List ℕ). length ys) (c.items.ensures ∙ c.self.invariant.begin)
    ∙ starts_count 2 (infos_in c.self.inside.class.now))
