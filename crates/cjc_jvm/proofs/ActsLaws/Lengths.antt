-- Lists of unlike lengths, and types by their places.
use Rattle.std.proofs.Common.{◌≡◌, ℕ, suc, List, [], ◌∷◌, length, Bool, false, refl, ap, ◌∙◌}
use Rattle.std.specs.Prelude.{◌≢◌, ◌&&◌}
use Rattle.cjc_jvm_step.specs.Script.declared.value.Value.{Value}
use Rattle.cjc_jvm_step.specs.Script.Sorts.{Sort, Shape, fits, all_fit}
use Rattle.cjc_jvm_semantics.specs.Machine.{is_of_sort, are_of_sorts}
use Rattle.cjc_jvm_semantics.proofs.BytesBools.{and_false}

-- fewer values than types, or more
pub all_fit-unlike : (is_of : ℕ → Shape (List ℕ) → Bool) (sorts : List Sort) (values : List Value)
    → length sorts ≢ length values → all_fit is_of sorts values ≡ false
all_fit-unlike is_of [] [] h = absurd (h refl)
all_fit-unlike is_of [] (v ∷ values) h = refl
all_fit-unlike is_of (s ∷ sorts) [] h = refl
all_fit-unlike is_of (s ∷ sorts) (v ∷ values) h = ap (λ t. fits is_of s v && t) (all_fit-unlike is_of sorts values
    (λ e. h (ap suc e))) ∙ and_false (fits is_of s v)

pub are_of_sorts-unlike : (sorts : List Sort) (values : List Value) → length sorts ≢ length values
    → are_of_sorts sorts values ≡ false
are_of_sorts-unlike [] [] h = absurd (h refl)
are_of_sorts-unlike [] (v ∷ values) h = refl
are_of_sorts-unlike (s ∷ sorts) [] h = refl
are_of_sorts-unlike (s ∷ sorts) (v ∷ values) h = ap (λ t. is_of_sort s v && t) (are_of_sorts-unlike sorts values
    (λ e. h (ap suc e))) ∙ and_false (is_of_sort s v)
