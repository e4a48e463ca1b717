-- To join what is below already changes nothing.
use Rattle.std.proofs.Common.{◌≡◌, ◌≤◌, ℕ, Bool, true, false, cond, leb, List, length, refl, ◌∙◌, ap, subst, sym, arith}
use Rattle.std.proofs.lemmas.Bool.{leb-false}
use Rattle.cjc_types.specs.declared.cell.Cell.{Cell}
use Rattle.cjc_types.specs.declared.cell.Cell.TheVariants.{Refs, Unusable}
use Rattle.cjc_types.specs.declared.state.State.{State}
use Rattle.cjc_types.specs.Names.{IsWithin, union}
use Rattle.cjc_types.specs.Cells.{most_names, refs, IsNameSet, IsCell, joined_cell}
use Rattle.cjc_types.specs.States.{states}
use Rattle.cjc_types.specs.Working.Merging.{union_same}
use Rattle.cjc_types.specs.Working.StateLaws.{state_lattice}

whole : (names : List (List ℕ)) → length names ≤ most_names → refs names ≡ Refs names
whole names few = go (leb (length names) most_names) refl
  where
    go : (b : Bool) → leb (length names) most_names ≡ b → cond b (Refs names) Unusable ≡ Refs names
    go true e = refl
    go false e = let many = leb-false _ _ e in absurd (omega (arith, few, many))

above_refs : (names others : List (List ℕ)) → IsNameSet names → IsNameSet others → IsWithin others names
    → refs (union names others) ≡ Refs names
above_refs names others own other within = ap refs (union_same names others own.set other.set within)
    ∙ whole names own.few

pub above_from_same : (n : ℕ) (row state : State) → (states n).Own row → (states n).Own state
    → (states n).join row state ≡ row → (states n).Below state row
above_from_same n row state own_row own same = subst (λ (s : State). (states n).Below state s) same
    ((state_lattice n).above_right row state own_row own)

pub above_cells : (x y : Cell) (names others a b : List (List ℕ)) → x ≡ Refs names → y ≡ Refs others → a ≡ names
    → b ≡ others → IsCell x → IsCell y → IsWithin b a → joined_cell x y ≡ x
above_cells x y names others a b is_x is_y is_a is_b own_x own_y within =
    let own : IsNameSet names = subst IsCell is_x own_x in
    let other : IsNameSet others = subst IsCell is_y own_y in
    let less : IsWithin others names = subst (λ (zs : List (List ℕ)). IsWithin others zs) is_a
    (subst (λ (zs : List (List ℕ)). IsWithin zs a) is_b within) in
    subst (λ (v : Cell). joined_cell v y ≡ v) (sym is_x) (subst (λ (v : Cell). joined_cell (Refs names) v ≡ Refs names)
    (sym is_y) (above_refs names others own other less))
