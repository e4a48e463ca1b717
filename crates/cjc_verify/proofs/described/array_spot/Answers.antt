use Rattle.std.proofs.Common.{◌≡◌, ◌∙◌, ℕ, List, Option, sym, ap, subst}
use Rattle.cjc_check_rules.specs.Spots.{first}
use Rattle.cjc_verify.specs.Described.{all_array_spots}
use Rattle.cjc_verify.specs.Pairs.{Pair}
use Rattle.cjc_verify.specs.WantedDescriptor.{arrays_differ}
use Rattle.cjc_verify.specs.Working.Ready.{pair_by}
use Rattle.cjc_verify.proofs.described.array_spot.Goals as goal

pub arrays_differ-requires : goal.arrays_differ-requires
arrays_differ-requires c = c.pair.invariant.small.statics

pub returns : goal.returns
returns c =
    let i = c.pair.inside in
    let p = pair_by i.world.now i.tokens.now i.image.now i.parts.now i.tables.now in
    subst (λ (q : Pair). c.arrays_differ.result ≡ first (all_array_spots q)) c.pair.view_is
    (c.arrays_differ.ensures
    ∙ ap (λ (numbers : List (Option ℕ)). first (arrays_differ i.parts.now.statics.now.array_inits numbers))
    (c.items.ensures ∙ c.in_ok-numbers.ensures)
    ∙ ap first (sym (c.described_beside_wanted.ensures.arrays p)))
