-- The first place where a rule is broken is its first break.
use Rattle.std.proofs.Common.{◌≡◌, ℕ, List, map, refl, sym, ap, subst, ◌∙◌, Option, Some, None, option_map}
use Rattle.cjc_bytes.specs.Breaks.{Break, IsFirstOf}
use Rattle.cjc_methods.proofs.CheckFirstPlaces.{first_place}
use Rattle.cjc_methods.specs.LowerCheck.Order.{as_break}
use Rattle.cjc_check_rules.specs.Consistent.{break_at}
use Rattle.cjc_check_rules.specs.Spots.{first}
use Rattle.cjc_check_rules.specs.declared.spot.ComponentPlace.{ComponentPlace}
use Rattle.std.proofs.Common.{true}

as_mapped : (rule : ℕ) (o : Option ComponentPlace) → as_break rule true o ≡ option_map (break_at rule) o
as_mapped rule None = refl
as_mapped rule (Some s) = refl

pub first_of_spots : (rule : ℕ) (spots : List ComponentPlace) (spot : Option ComponentPlace) (o : Option Break)
    → spot ≡ first spots → o ≡ option_map (break_at rule) spot → IsFirstOf (map (break_at rule) spots) o
first_of_spots rule spots spot o is same =
    subst (λ (x : Option Break). IsFirstOf (map (break_at rule) spots) x) (as_mapped rule (first spots)
    ∙ ap (option_map (break_at rule)) (sym is) ∙ sym same) (first_place rule spots)
