use Rattle.std.proofs.Common.{ℕ, List, ap, ◌∙◌, ◌==◌}
use Rattle.cjc_card_link.specs.Indices.{first_place}
use Rattle.cjc_card_link.specs.Infos.{infos_in}
use Rattle.cjc_card_link.proofs.InfoPlaces.{number_place}
use Rattle.cjc_card_link.proofs.infos.Infos.new.Goals as goal

pub invariant_of-result : goal.invariant_of-result
invariant_of-result c = record {
  begin = c.in_ok-offsets.ensures;
  by_offset = λ x. c.in_ok-numbers.ensures x ∙ ap (λ (ns : List ℕ). first_place (λ n. n == x) ns) (c.items.ensures
      ∙ c.in_ok-offsets.ensures) ∙ number_place 2 (infos_in c.args.class.now) x;
  small = c.requires;
}
