-- Tests that pass, and lists of places that are empty.
use Rattle.std.proofs.Common.{◌≡◌, Bool, true, List, [], ◌++◌, ap, ◌∙◌}
use Rattle.cjc_components.specs.LowerCheckRules.declared.spot.ComponentPlace.{ComponentPlace}
use Rattle.cjc_components.specs.LowerCheckRules.Spots.{unless}

-- nothing is broken where the test passes
pub passes : (test : Bool) (spot : ComponentPlace) → test ≡ true → unless test spot ≡ []
passes test spot e = ap (λ t. unless t spot) e

pub none_in_both : {A : Type 0} {xs ys : List A} → xs ≡ [] → ys ≡ [] → xs ++ ys ≡ []
none_in_both {A} {xs} {ys} e f = ap (λ (zs : List A). zs ++ ys) e ∙ f
