-- What stands above a class of an export file with java/lang/Object: it is there, and changes nothing where it is
-- listed.
use Rattle.std.proofs.Common.{◌≡◌, ℕ, ◌<◌, ◌^◌, refl, ap, arith, Bool, true, false, List, [], ◌∷◌, ◌++◌, length, inl}
use Rattle.std.proofs.Common.{inr}
use Rattle.std.specs.Prelude.{◌⊎◌, ◌||◌, if◌then◌else◌}
use Rattle.std.specs.List.{AllByRecursion, list_any}
use Rattle.std.specs.Str.{bytes_eq}
use Rattle.cjc_export.specs.Root.{object, with_root}
use Rattle.cjc_export.specs.Writable.{IsText}
use Rattle.cjc_export.proofs.Numbering.{all_append}

-- whether java/lang/Object is one of the names
abbrev pub has_root : List (List ℕ) → Bool
has_root names = list_any (λ x. bytes_eq x object) names

last_root : (names : List (List ℕ)) → has_root (names ++ object ∷ []) ≡ true
last_root [] = refl
last_root (x ∷ names) = by (bytes_eq x object) (last_root names)
  where
    by : (b : Bool) → has_root (names ++ object ∷ []) ≡ true → (b || has_root (names ++ object ∷ [])) ≡ true
    by true e = refl
    by false e = e

pub root_same : (name : List ℕ) (names : List (List ℕ)) → has_root names ≡ true → with_root name names ≡ names
unfolding with_root
root_same name names e = by (bytes_eq name object)
  where
    by : (b : Bool) → (if b || has_root names then names else names ++ object ∷ []) ≡ names
    by true = refl
    by false = ap (λ b. if b then names else names ++ object ∷ []) e

pub root_there : (name : List ℕ) (names : List (List ℕ)) → (bytes_eq name object ≡ true)
    ⊎ (has_root (with_root name names) ≡ true)
unfolding with_root
root_there name names = by (bytes_eq name object) (has_root names) refl refl
  where
    by : (a b : Bool) → bytes_eq name object ≡ a → has_root names ≡ b → (bytes_eq name object ≡ true)
        ⊎ (has_root (if a || b then names else names ++ object ∷ []) ≡ true)
    by true b e f = inl e
    by false true e f = inr f
    by false false e f = inr (last_root names)

root_text : IsText object
root_text = omega arith

pub root_texts : (name : List ℕ) (names : List (List ℕ)) → AllByRecursion IsText names
    → AllByRecursion IsText (with_root name names)
unfolding with_root
root_texts name names h = by (bytes_eq name object || has_root names)
  where
    by : (b : Bool) → AllByRecursion IsText (if b then names else names ++ object ∷ [])
    by true = h
    by false = all_append IsText names (object ∷ []) h (root_text, tt)
