-- Methods that a class lacks.
use Rattle.std.proofs.Common.{◌≡◌, ℕ, zero, suc, subst, Bool, true, false, List, [], ◌∷◌, ◌++◌}
use Rattle.std.specs.Prelude.{◌||◌, Some, slice_get, if◌then◌else◌}
use Rattle.cjc_vtable.proofs.Filed.{Has, at_front, behind}
use Rattle.cjc_world.specs.Added.{is_one_of, lacking}
use Rattle.cjc_world.specs.Classes.{Member}

-- each is one of those that were asked for
pub lacking_has : (there : Member → Bool) (given ms : List Member) (k : ℕ) (m : Member)
    → slice_get (lacking there given ms) k ≡ Some m → Has m ms
unfolding lacking
lacking_has there given [] k m e = cc
lacking_has there given (x ∷ ms) k m e = by (there x || is_one_of given x.name x.desc) k e (λ j f. lacking_has there
    given ms j m f) (λ j f. lacking_has there (given ++ x ∷ []) ms j m f)
  where
    by : (b : Bool) (k : ℕ) → slice_get (if b then lacking there given ms else x ∷ lacking there (given ++ x ∷ []) ms) k
        ≡ Some m
        → ((j : ℕ) → slice_get (lacking there given ms) j ≡ Some m → Has m ms)
        → ((j : ℕ) → slice_get (lacking there (given ++ x ∷ []) ms) j ≡ Some m → Has m ms) → Has m (x ∷ ms)
    by true k e old fresh = behind (old k e)
    by false zero e old fresh = let same : x ≡ m = cc in subst (λ (y : Member). Has y (x ∷ ms)) same at_front
    by false (suc k) e old fresh = behind (fresh k e)
