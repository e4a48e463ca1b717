-- Instructions stand one behind the other.
use Rattle.std.proofs.Common.{◌≡◌, ℕ, zero, suc, ◌+◌, ◌-◌, ◌<◌, ◌≤◌, List, [], ◌∷◌, length, get_or, take, drop, map}
use Rattle.std.proofs.Common.{refl, sym, ap, ◌∙◌, subst, arith, Option, Some, None, Result, Ok, Err}
use Rattle.std.specs.List.Sorted.{IsNonDecreasing}
use Rattle.std.proofs.lemmas.List.{map-append}
use Rattle.cjc_capread.specs.Decode.{Instruction, decode, size}
use Rattle.cjc_check_rules.specs.Spots.{Placed}
use Rattle.cjc_check_rules.specs.Codes.{instructions, onto, with_instruction}
use Rattle.cjc_check.specs.declared.codes.code.At.{At}
use Rattle.cjc_check.specs.Codes.Bodies.{placed_of}

abbrev pub Ascends : (from : ℕ) → List ℕ → Type 0
Ascends from [] = Unit {0}
Ascends from (x ∷ xs) = (from ≤ x) × Ascends x xs

lower : (from to : ℕ) (xs : List ℕ) → from ≤ to → Ascends to xs → Ascends from xs
lower from to [] le h = tt
lower from to (x ∷ xs) le h = let a = h.0 in (omega (arith, le, a), h.1)

above : (from : ℕ) (xs : List ℕ) (k d : ℕ) → Ascends from xs → k < length xs → from ≤ get_or xs k d
above from [] k d h lt = absurd (omega (arith, lt))
above from (x ∷ xs) zero d h lt = h.0
above from (x ∷ xs) (suc k) d h lt = let a = h.0 in let b = above x xs k d h.1 (omega (arith, lt))
    in omega (arith, a, b)

rises : (from : ℕ) (xs : List ℕ) → Ascends from xs → IsNonDecreasing xs
rises from [] h i j d le lt = absurd (omega (arith, lt))
rises from (x ∷ xs) h zero zero d le lt = omega arith
rises from (x ∷ xs) h zero (suc j) d le lt = above x xs j d h.1 (omega (arith, lt))
rises from (x ∷ xs) h (suc i) zero d le lt = absurd (omega (arith, le))
rises from (x ∷ xs) h (suc i) (suc j) d le lt = rises x xs h.1 i j d (omega (arith, le)) (omega (arith, lt))

abbrev pub ats : List (Placed Instruction) → List ℕ
ats is = map (λ p. p.at) is

ascends : (n count at : ℕ) (bs : List ℕ) (is : List (Placed Instruction)) → instructions n count at bs ≡ Ok is
    → Ascends at (ats is)
unfolding instructions
ascends zero count at bs is e = let none : [] ≡ is = cc
    in subst (λ (ps : List (Placed Instruction)). Ascends at (ats ps)) none tt
ascends (suc n) zero at bs is e = let none : [] ≡ is = cc
    in subst (λ (ps : List (Placed Instruction)). Ascends at (ats ps)) none tt
ascends (suc n) (suc count) at bs is e = found (decode (take (suc count) bs)) e
    (λ i ps g. ascends n (suc count - size i) (at + size i) (drop (size i) bs) ps g)
  where
    go : Instruction → Result (List (Placed Instruction)) ℕ
    go i = instructions n (suc count - size i) (at + size i) (drop (size i) bs)

    onwards : (i : Instruction) (r : Result (List (Placed Instruction)) ℕ) → go i ≡ r
        → onto (record { at = at; item = i }) r ≡ Ok is
        → ((ps : List (Placed Instruction)) → go i ≡ Ok ps → Ascends (at + size i) (ats ps)) → Ascends at (ats is)
    onwards i (Ok ps) g f next =
        let one : record { at = at; item = i } ∷ ps ≡ is = cc in
        subst (λ (qs : List (Placed Instruction)). Ascends at (ats qs)) one (
          omega arith,
          lower at (at + size i) (ats ps) (omega arith) (next ps g),
        )
    onwards i (Err k) g f next = absurd cc

    found : (o : Option Instruction) → with_instruction at o go ≡ Ok is
        → ((i : Instruction) (ps : List (Placed Instruction)) → go i ≡ Ok ps → Ascends (at + size i) (ats ps))
        → Ascends at (ats is)
    found None f next = absurd cc
    found (Some i) f next = onwards i (go i) refl f (next i)

same_ats : (insns : List At) → ats (map placed_of insns) ≡ map (λ a. a.at) insns
same_ats [] = refl
same_ats (a ∷ insns) = ap (λ xs. a.at ∷ xs) (same_ats insns)

pub walked_rise : (n count at : ℕ) (bs : List ℕ) (insns : List At) → Ok (map placed_of insns) ≡ instructions n count at
    bs → IsNonDecreasing (map (λ a. a.at) insns)
walked_rise n count at bs insns e =
    subst IsNonDecreasing (same_ats insns) (rises at (ats (map placed_of insns)) (ascends n count at bs
    (map placed_of insns) (sym e)))
