-- One place more with its mark.
use Rattle.std.proofs.Common.{◌≡◌, ℕ, zero, suc, ◌<◌, ◌≤◌, refl, sym, ap, ◌∙◌, arith, Bool, true, false, List, [], ◌∷◌}
use Rattle.std.proofs.Common.{◌++◌, length, slice_set, ⊎_elim}
use Rattle.std.specs.Prelude.{◌||◌, ◌==◌, Some, slice_get}
use Rattle.std.proofs.lemmas.Bool.Decides.{nat_tests}
use Rattle.cjc_world.specs.Working.Places.{is_in}
use Rattle.cjc_world.specs.Working.Tables.{AreMarked}
use Rattle.cjc_world.proofs.Joined.{in-append, or-false}
use Rattle.cjc_bytes.proofs.Bools.{or_true}
use Rattle.cjc_bytes.proofs.Numbers.{like_number, same_place}

set-here : (marks : List Bool) (q : ℕ) (mark : Bool) → slice_get (slice_set marks q true) q ≡ Some mark → mark ≡ true
set-here [] q mark e = cc
set-here (m ∷ marks) zero mark e = cc
set-here (m ∷ marks) (suc q) mark e = set-here marks q mark e

set-there : (marks : List Bool) (q p : ℕ) → (p ≡ q → ⊥) → slice_get (slice_set marks q true) p ≡ slice_get marks p
set-there [] q p n = refl
set-there (m ∷ marks) zero zero n = absurd (n refl)
set-there (m ∷ marks) zero (suc p) n = refl
set-there (m ∷ marks) (suc q) zero n = refl
set-there (m ∷ marks) (suc q) (suc p) n = set-there marks q p (λ e. n (ap suc e))

in-last : (places : List ℕ) (q : ℕ) → is_in q (places ++ q ∷ []) ≡ true
in-last places q = in-append q places (q ∷ []) ∙ ap (λ b. is_in q places || b) (or-false (q == q) ∙ like_number q)
    ∙ or_true (is_in q places)

in-other : (places : List ℕ) (q p : ℕ) → (p ≡ q → ⊥) → is_in p (places ++ q ∷ []) ≡ is_in p places
in-other places q p n =
    let other : (q == p) ≡ false = grind (arith, nat_tests) in
    in-append p places (q ∷ []) ∙ ap (λ b. is_in p places || b) (or-false (q == p) ∙ other) ∙ or-false (is_in p places)

within : (marks : List Bool) (p : ℕ) (mark : Bool) → slice_get marks p ≡ Some mark → p < length marks
within [] p mark e = cc
within (m ∷ marks) zero mark e = omega arith
within (m ∷ marks) (suc p) mark e = let h = within marks p mark e in omega arith

pub mark-set : (marks : List Bool) (places new : List ℕ) (q : ℕ) → AreMarked marks places → new ≡ places ++ q ∷ []
    → AreMarked (slice_set marks q true) new
mark-set marks places new q inv is = λ p mark e. ⊎_elim
    (λ (same : p ≡ q). set-here marks q mark (ap (slice_get (slice_set marks q true)) (sym same) ∙ e)
    ∙ sym (in-last places q) ∙ ap (λ v. is_in v (places ++ q ∷ [])) (sym same) ∙ ap (is_in p) (sym is))
    (λ (other : p ≡ q → ⊥). inv p mark (sym (set-there marks q p other) ∙ e) ∙ sym (in-other places q p other)
    ∙ ap (is_in p) (sym is))
    (same_place p q)

-- the place has no mark
pub mark-over : (marks : List Bool) (places new : List ℕ) (q : ℕ) → length marks ≤ q → AreMarked marks places
    → new ≡ places ++ q ∷ [] → AreMarked marks new
mark-over marks places new q past inv is = λ p mark e.
    let l = within marks p mark e in
    inv p mark e ∙ sym (in-other places q p (λ same. let s : p ≡ q = same in absurd (omega arith)))
    ∙ ap (is_in p) (sym is)
