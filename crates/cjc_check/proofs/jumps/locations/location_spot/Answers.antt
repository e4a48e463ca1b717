use Rattle.std.proofs.Common.{ℕ, List, ◌+◌, ap, ◌∙◌, length}
use Rattle.cjc_check_rules.specs.Locations.{are_listed}
use Rattle.cjc_check_rules.specs.Spots.{first}
use Rattle.cjc_check_rules.proofs.Firsts.{joined}
use Rattle.cjc_check.proofs.jumps.locations.location_spot.Goals as goal

pub returns : goal.returns
returns c =
    let one = c.args.locations.now.one_byte in
    let two = c.args.locations.now.two_byte in
    c.earlier.ensures ∙ joined c.are_listed-first.result c.are_listed-second.result _ _
    (c.are_listed-first.ensures ∙ ap (λ (xs : List ℕ). first (are_listed 0 xs c.items-one_wanted.result.now))
    c.items-one_byte.ensures
    ∙ ap (λ (ys : List ℕ). first (are_listed 0 one ys)) (c.items-one_wanted.ensures ∙ c.in_ok-ones.ensures))
    (c.are_listed-second.ensures ∙ ap (λ (xs : List ℕ). first (are_listed (2 + length xs) c.items-two_byte.result.now
    c.items-two_wanted.result.now)) c.items-one_byte.ensures
    ∙ ap (λ (xs : List ℕ). first (are_listed (2 + length one) xs c.items-two_wanted.result.now))
    c.items-two_byte.ensures
    ∙ ap (λ (ys : List ℕ). first (are_listed (2 + length one) two ys)) (c.items-two_wanted.ensures
    ∙ c.in_ok-twos.ensures))
