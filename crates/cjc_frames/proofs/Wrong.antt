-- A search for a wrong operand, one place further.
use Rattle.std.proofs.Common.{◌≡◌, ◌<◌, ◌≤◌, ◌+◌, ◌||◌, ℕ, Bool, true, false, not, List, [], ◌∷◌, length, drop, get_or}
use Rattle.std.proofs.Common.{refl, sym, ◌∙◌, ap, drop_of_length-le}
use Rattle.cjc_types.specs.declared.cell.Cell.{Cell}
use Rattle.cjc_frames.specs.declared.acts.Need.{Need}
use Rattle.cjc_frames.specs.Acts.{Subtype, meets, has_wrong}
use Rattle.cjc_fixpoint.proofs.BytesGets.{drop_next}

module _ (is_of : Subtype) (needs : List Need) (stack : List Cell) (k : ℕ) (need : Need) (cell : Cell)
    (lt : k < length needs) (within : k < length stack) (is_need : need ≡ get_or needs k need)
    (is_cell : cell ≡ get_or stack k cell) where
  wrong_next : has_wrong is_of (drop k needs) (drop k stack) ≡ not (meets is_of need cell) || has_wrong is_of
      (drop (k + 1) needs) (drop (k + 1) stack)
  wrong_next = ap (λ (ns : List Need). has_wrong is_of ns (drop k stack)) (drop_next needs k need lt is_need)
      ∙ ap (λ (xs : List Cell). has_wrong is_of (need ∷ drop (k + 1) needs) xs) (drop_next stack k cell within is_cell)

  -- the operand here is wrong
  pub wrong_here : (met : Bool) → met ≡ meets is_of need cell → met ≡ false → has_wrong is_of (drop k needs)
      (drop k stack) ≡ true
  wrong_here met is fails = wrong_next ∙ ap (λ (b : Bool). not b || has_wrong is_of (drop (k + 1) needs)
      (drop (k + 1) stack)) (sym is ∙ fails)

  -- it is right, and the rest is searched
  pub wrong_later : (met : Bool) → met ≡ meets is_of need cell → met ≡ true → has_wrong is_of (drop (k + 1) needs)
      (drop (k + 1) stack) ≡ has_wrong is_of (drop k needs) (drop k stack)
  wrong_later met is holds = sym (wrong_next ∙ ap (λ (b : Bool). not b || has_wrong is_of (drop (k + 1) needs)
      (drop (k + 1) stack)) (sym is ∙ holds))

nothing_wrong : (is_of : Subtype) (needs : List Need) → has_wrong is_of needs [] ≡ false
nothing_wrong is_of [] = refl
nothing_wrong is_of (n ∷ needs) = refl

-- no operand is there
pub wrong_past : (is_of : Subtype) (needs : List Need) (stack : List Cell) (k : ℕ) → length stack ≤ k
    → has_wrong is_of (drop k needs) (drop k stack) ≡ false
wrong_past is_of needs stack k past = ap (has_wrong is_of (drop k needs)) (drop_of_length-le stack past)
    ∙ nothing_wrong is_of (drop k needs)

-- nothing more is needed
pub wrong_end : (is_of : Subtype) (needs : List Need) (stack : List Cell) (k : ℕ) → length needs ≤ k
    → has_wrong is_of (drop k needs) (drop k stack) ≡ false
wrong_end is_of needs stack k past = ap (λ (ns : List Need). has_wrong is_of ns (drop k stack)) (drop_of_length-le needs
    past)
