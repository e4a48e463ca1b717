-- A name that is noted is among those that were, and other names are as before.
use Rattle.std.proofs.Common.{◌≡◌, ℕ, refl, sym, ap, subst, ◌∙◌, Bool, true, false, cond, List, [], ◌∷◌, ◌++◌}
use Rattle.std.proofs.Common.{Option, Some, None}
use Rattle.std.specs.Prelude.{◌||◌, is_some}
use Rattle.std.specs.HashMap as hash
use Rattle.std.specs.HashMap.{HashMap}
use Rattle.std.specs.Map.{KeepsOthers}
use Rattle.std.specs.Str.{bytes_eq}
use Rattle.cjc_export.specs.Supers.{is_one_of}
use Rattle.cjc_export.proofs.BytesLists.{bytes_true, bytes_flip}

module _ {K X S : Type 0} (bytes : K → List ℕ) where
  pub put_noted : (name : List ℕ) (m n : HashMap K X S) (w : X)
      → hash.UpdatesBy (λ x y. bytes_eq (bytes x) (bytes y)) (λ k. bytes_eq name (bytes k)) m n (Some w)
      → (other : List ℕ) → is_some (hash.get_by (λ k. bytes_eq other (bytes k)) n) ≡ bytes_eq name other
      || is_some (hash.get_by (λ k. bytes_eq other (bytes k)) m)
  unfolding KeepsOthers
  put_noted name m n w h other = by (bytes_eq name other) refl
    where
      by : (b : Bool) → bytes_eq name other ≡ b → is_some (hash.get_by (λ k. bytes_eq other (bytes k)) n)
          ≡ b || is_some (hash.get_by (λ k. bytes_eq other (bytes k)) m)
      by true e = ap is_some (subst (λ z. hash.get_by (λ k. bytes_eq z (bytes k)) n ≡ Some w) (bytes_true name other e)
          h.1)
      by false e =
          let kept : hash.get_by (λ k. bytes_eq other (bytes k)) n ≡ hash.get_by (λ k. bytes_eq other (bytes k)) m =
          h.3 (λ k. bytes_eq other (bytes k))
          (λ x y f. ap (λ z. bytes_eq z (bytes y)) (bytes_true other (bytes x) f))
          (λ k f. bytes_flip other (bytes k) ∙ ap (λ z. bytes_eq z other) (sym (bytes_true name (bytes k) f)) ∙ e) in
          ap is_some kept

-- of a name that is noted
pub again : (name x : List ℕ) (noted : List ℕ → Bool) → noted name ≡ true → noted x ≡ bytes_eq name x || noted x
again name x noted there = by (bytes_eq name x) refl
  where
    by : (b : Bool) → bytes_eq name x ≡ b → noted x ≡ b || noted x
    by true e = subst (λ z. noted z ≡ true) (bytes_true name x e) there
    by false e = refl

-- one name more at the end of a list
pub one_more : (names : List (List ℕ)) (name x : List ℕ) → is_one_of (names ++ name ∷ []) x ≡ bytes_eq name x
    || is_one_of names x
one_more [] name x = refl
one_more (y ∷ names) name x = by (bytes_eq y x) (bytes_eq name x) (is_one_of (names ++ name ∷ []) x) (is_one_of names x)
    (one_more names name x)
  where
    by : (a b c d : Bool) → c ≡ b || d → a || c ≡ b || (a || d)
    by true true c d e = refl
    by true false c d e = refl
    by false b c d e = e
