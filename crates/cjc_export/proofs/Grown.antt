-- A loop that reads items with the earlier ones known.
use Rattle.std.proofs.Common.{◌≡◌, ℕ, suc, List, [], ◌∷◌, ◌++◌, Result, Ok, Err, refl, sym, ◌∙◌}
use Rattle.cjc_bytes.specs.Rest.{Rest}
use Rattle.cjc_bytes.specs.Format.{Format, iterated}
use Rattle.cjc_bytes.specs.declared.stop.Stop.{Stop}
use Rattle.cjc_bytes.specs.declared.stop.Stop.TheVariants as stops
use Rattle.cjc_bytes.specs.Reading.{read, Reads}
use Rattle.cjc_export.specs.Members.{grown}

pub grown_more : {A : Type 0} (p : List A → Format A) (left behind : ℕ) (r s : Rest) (so_far : List A) (x : A)
    (total : Result (List A × Rest) ℕ) → left ≡ suc behind → read (p so_far) r ≡ Ok (x, s)
    → read (iterated left (grown p) so_far) r ≡ total → read (iterated behind (grown p) (so_far ++ x ∷ [])) s ≡ total
unfolding iterated grown
grown_more p left behind r s so_far x total k one h = sym (rw (k, one) refl) ∙ h

pub grown_stops : {A : Type 0} (p : List A → Format A) (left behind : ℕ) (r : Rest) (so_far : List A) (k : ℕ)
    (total : Result (List A × Rest) ℕ) → left ≡ suc behind → read (p so_far) r ≡ Err k
    → read (iterated left (grown p) so_far) r ≡ total → total ≡ Err k
unfolding iterated grown
grown_stops p left behind r so_far k total m one h = sym h ∙ rw (m, one) refl

-- The exit of such a loop at an item that is not there.
pub grown_fails : {A : Type 0} (p : List A → Format A) (count left behind : ℕ) (first r s : Rest) (so_far : List A)
    (e : Stop) → left ≡ suc behind → Reads {X = A} (λ x. x) (p so_far) r s (Err e)
    → read (iterated left (grown p) so_far) r ≡ read (iterated count (grown p) []) first
    → Reads {X = List A} (λ xs. xs) (iterated count (grown p) []) first s (Err e)
grown_fails p count left behind first r s so_far (stops.Broken k) m one h = grown_stops p left behind r so_far k
    (read (iterated count (grown p) []) first) m one h
grown_fails p count left behind first r s so_far stops.NoMemory m one h = tt
