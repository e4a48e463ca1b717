-- Operand stacks of any cells form an order with joins, if the cells do.
use Rattle.std.proofs.Common.{◌≡◌, ◌≤◌, ◌*◌, ◌==◌, ℕ, Bool, true, false, cond, leb, List, length, sum_by, All, refl}
use Rattle.std.proofs.Common.{sym, ◌∙◌, subst, arith}
use Rattle.std.specs.List.{AllZip}
use Rattle.std.proofs.lemmas.Bool.{leb-true, eqb-true, eqb-false}
use Rattle.std.proofs.lemmas.List.Elements.{length_all_zip, All-weaker}
use Rattle.std.proofs.lemmas.List.Sums.{sum_by-le}
use Rattle.std.proofs.Math.Nat.{mul-le-mul_left, mul_comm}
use Rattle.cjc_fixpoint.specs.Lattice.{Lattice, IsLattice, IsListOf, joined, lists_of}
use Rattle.cjc_fixpoint.proofs.Lattices.{lists_lattice}
use Rattle.cjc_types.specs.States.{most_cells}
use Rattle.cjc_types.specs.Stacks.{StackOf, Cells, Clash, stack_of, IsCellStack, IsStack, IsStackBelow, joined_stack}
use Rattle.cjc_types.specs.Stacks.{clash_rank, stack_rank, stacks_of}

module _ {Cell : Type 0} (cells : Lattice Cell) (laws : IsLattice cells) where
  lists : (n : ℕ) → IsLattice (lists_of cells n)
  lists n = lists_lattice cells laws n

  all_own : (n : ℕ) (xs : List Cell) → length xs ≡ n → All cells.Own xs → IsListOf cells n xs
  all_own n xs sized own = record { sized = sized; own = own }

  stack_refl : (s : StackOf Cell) → IsStack cells s → IsStackBelow cells s s
  stack_refl (Cells xs) h = (lists (length xs)).reflexive xs (all_own (length xs) xs refl h.own)
  stack_refl Clash h = tt

  stack_trans : (x y z : StackOf Cell) → IsStack cells x → IsStack cells y → IsStack cells z → IsStackBelow cells x y
      → IsStackBelow cells y z → IsStackBelow cells x z
  stack_trans x y Clash own_x own_y own_z h k = tt
  stack_trans x Clash (Cells zs) own_x own_y own_z h k = absurd k
  stack_trans Clash (Cells ys) (Cells zs) own_x own_y own_z h k = absurd h
  stack_trans (Cells xs) (Cells ys) (Cells zs) own_x own_y own_z h k =
      let same = length_all_zip cells.Below xs ys h in
      let same' = length_all_zip cells.Below ys zs k in
      (lists (length ys)).transitive xs ys zs (all_own _ xs same own_x.own) (all_own _ ys refl own_y.own)
      (all_own _ zs (sym same') own_z.own) h k

  own_join : (x y : StackOf Cell) → IsStack cells x → IsStack cells y → IsStack cells (joined_stack cells x y)
  own_join (Cells xs) (Cells ys) h k = go (length xs == length ys) refl
    where
      go : (b : Bool) → (length xs == length ys) ≡ b → IsStack cells (cond b (Cells (joined cells.join xs ys)) Clash)
      go true e =
          let same = eqb-true (length xs) (length ys) e in
          let own = (lists (length xs)).own_join xs ys (all_own _ xs refl h.own) (all_own _ ys (sym same) k.own) in
          let sized = own.sized in
          let few = h.few in
          record { few = omega (arith, sized, few); own = own.own }
      go false e = tt
  own_join (Cells xs) Clash h k = tt
  own_join Clash y h k = tt

  above_left : (x y : StackOf Cell) → IsStack cells x → IsStack cells y → IsStackBelow cells x (joined_stack cells x y)
  above_left (Cells xs) (Cells ys) h k = go (length xs == length ys) refl
    where
      go : (b : Bool) → (length xs == length ys) ≡ b
          → IsStackBelow cells (Cells xs) (cond b (Cells (joined cells.join xs ys)) Clash)
      go true e = (lists (length xs)).above_left xs ys (all_own _ xs refl h.own)
          (all_own _ ys (sym (eqb-true (length xs) (length ys) e)) k.own)
      go false e = tt
  above_left (Cells xs) Clash h k = tt
  above_left Clash y h k = tt

  above_right : (x y : StackOf Cell) → IsStack cells x → IsStack cells y → IsStackBelow cells y (joined_stack cells x y)
  above_right (Cells xs) (Cells ys) h k = go (length xs == length ys) refl
    where
      go : (b : Bool) → (length xs == length ys) ≡ b
          → IsStackBelow cells (Cells ys) (cond b (Cells (joined cells.join xs ys)) Clash)
      go true e = (lists (length xs)).above_right xs ys (all_own _ xs refl h.own)
          (all_own _ ys (sym (eqb-true (length xs) (length ys) e)) k.own)
      go false e = tt
  above_right (Cells xs) Clash h k = tt
  above_right Clash y h k = tt

  least : (x y z : StackOf Cell) → IsStack cells x → IsStack cells y → IsStack cells z → IsStackBelow cells x z
      → IsStackBelow cells y z → IsStackBelow cells (joined_stack cells x y) z
  least x y Clash own_x own_y own_z h k = tt
  least Clash y (Cells zs) own_x own_y own_z h k = absurd h
  least (Cells xs) Clash (Cells zs) own_x own_y own_z h k = absurd k
  least (Cells xs) (Cells ys) (Cells zs) own_x own_y own_z h k = go (length xs == length ys) refl
    where
      same : length xs ≡ length ys
      same = length_all_zip cells.Below xs zs h ∙ sym (length_all_zip cells.Below ys zs k)

      go : (b : Bool) → (length xs == length ys) ≡ b
          → IsStackBelow cells (cond b (Cells (joined cells.join xs ys)) Clash) (Cells zs)
      go true e = (lists (length xs)).least xs ys zs (all_own _ xs refl own_x.own) (all_own _ ys (sym same) own_y.own)
          (all_own _ zs (sym (length_all_zip cells.Below xs zs h)) own_z.own) h k
      go false e = absurd (eqb-false (length xs) (length ys) e same)

  ranks : (xs : List Cell) → IsCellStack cells xs → sum_by cells.rank xs ≤ most_cells * cells.height
  ranks xs h =
      let each = sum_by-le cells.rank cells.height xs (All-weaker cells.Own (λ x. cells.rank x ≤ cells.height)
      laws.bounded xs h.own) in
      let few = h.few in
      let more : cells.height * length xs ≤ cells.height * most_cells = mul-le-mul_left cells.height few in
      omega (arith, each, more, mul_comm cells.height (length xs), mul_comm cells.height most_cells)

  stack_bounded : (x : StackOf Cell) → IsStack cells x → stack_rank cells x ≤ clash_rank cells
  stack_bounded (Cells xs) h = let r = ranks xs h in omega (arith, r)
  stack_bounded Clash h = omega arith

  ranked : (x y : StackOf Cell) → IsStack cells x → IsStack cells y → IsStackBelow cells x y
      → stack_rank cells x ≤ stack_rank cells y
  ranked x Clash own_x own_y h = stack_bounded x own_x
  ranked Clash (Cells ys) own_x own_y h = absurd h
  ranked (Cells xs) (Cells ys) own_x own_y h =
      (lists (length ys)).ranked xs ys (all_own _ xs (length_all_zip cells.Below xs ys h) own_x.own)
      (all_own _ ys refl own_y.own) h

  rises : (x y : StackOf Cell) → IsStack cells x → IsStack cells y → IsStackBelow cells x y
      → stack_rank cells y ≤ stack_rank cells x → IsStackBelow cells y x
  rises Clash y own_x own_y h l = tt
  rises (Cells xs) Clash own_x own_y h l = let r = ranks xs own_x in absurd (omega (arith, r, l))
  rises (Cells xs) (Cells ys) own_x own_y h l =
      (lists (length ys)).rises xs ys (all_own _ xs (length_all_zip cells.Below xs ys h) own_x.own)
      (all_own _ ys refl own_y.own) h l

  pub stack_lattice : IsLattice (stacks_of cells)
  stack_lattice = record {
    reflexive = stack_refl;
    transitive = stack_trans;
    own_join = own_join;
    above_left = above_left;
    above_right = above_right;
    least = least;
    ranked = ranked;
    rises = rises;
    bounded = stack_bounded;
  }

  -- ---- a stack that is cut off

  pub own_stack_of : (xs : List Cell) → All cells.Own xs → IsStack cells (stack_of xs)
  own_stack_of xs own = go (leb (length xs) most_cells) refl
    where
      go : (b : Bool) → leb (length xs) most_cells ≡ b → IsStack cells (cond b (Cells xs) Clash)
      go true e = record { few = leb-true _ _ e; own = own }
      go false e = tt

  pub stack_of_up : (xs ys : List Cell) → AllZip cells.Below xs ys → IsStackBelow cells (stack_of xs) (stack_of ys)
  stack_of_up xs ys h = subst (λ (n : ℕ). IsStackBelow cells (stack_of xs) (cond (leb n most_cells) (Cells ys) Clash))
      (length_all_zip cells.Below xs ys h) (go (leb (length xs) most_cells))
    where
      go : (b : Bool) → IsStackBelow cells (cond b (Cells xs) Clash) (cond b (Cells ys) Clash)
      go true = h
      go false = tt
