-- Laws of the order and the join of cells, which the solver asks of the states of a flow.
use Rattle.std.proofs.Common.{◌≡◌, ◌≤◌, ℕ, suc, Bool, true, false, cond, leb, List, length, refl, ap, subst, arith}
use Rattle.std.proofs.lemmas.Bool.{leb-true, leb-false}
use Rattle.cjc_fixpoint.specs.Lattice.{IsLattice}
use Rattle.cjc_types.specs.declared.cell.Cell.{Cell}
use Rattle.cjc_types.specs.declared.cell.Cell.TheVariants.{Number, Refs, Unusable}
use Rattle.cjc_types.specs.Names.{IsSet, IsWithin, union}
use Rattle.cjc_types.specs.Working.NameLaws.{union_left, union_right, union_least, set_union, length_within}
use Rattle.cjc_types.specs.Working.NameLaws.{same_within}
use Rattle.cjc_types.specs.Cells.{most_names, refs, IsNameSet, IsCell, IsCellBelow, joined_cell, cell_rank, cells}

-- each cell is below itself
pub below_refl : (x : Cell) → IsCellBelow x x
below_refl Number = tt
below_refl (Refs names) = λ n h. h
below_refl Unusable = tt

-- a cell below one that is below a third is below the third
pub below_trans : (x y z : Cell) → IsCellBelow x y → IsCellBelow y z → IsCellBelow x z
below_trans x y Unusable h k = tt
below_trans x Unusable Number h k = absurd k
below_trans x Unusable (Refs zs) h k = absurd k
below_trans x Number Number h k = h
below_trans x (Refs ys) Number h k = absurd k
below_trans x Number (Refs zs) h k = absurd k
below_trans Number (Refs ys) (Refs zs) h k = absurd h
below_trans (Refs xs) (Refs ys) (Refs zs) h k = λ n is. k n (h n is)
below_trans Unusable (Refs ys) (Refs zs) h k = absurd h

-- the cell of a set is own, above all that is within, and below what the set is within
pub own_refs : (names : List (List ℕ)) → IsSet names → IsCell (refs names)
own_refs names set = go (leb (length names) most_names) refl
  where
    go : (b : Bool) → leb (length names) most_names ≡ b → IsCell (cond b (Refs names) Unusable)
    go true e = record { set = set; few = leb-true _ _ e }
    go false e = tt

-- the cell of a set is above each reference whose types are within the set
pub refs_above : (less names : List (List ℕ)) → IsWithin less names → IsCellBelow (Refs less) (refs names)
refs_above less names h = go (leb (length names) most_names)
  where
    go : (b : Bool) → IsCellBelow (Refs less) (cond b (Refs names) Unusable)
    go true = h
    go false = tt

-- the cell of a set is below each reference whose types the set is within
pub refs_below : (names more : List (List ℕ)) → IsSet names → IsNameSet more → IsWithin names more
    → IsCellBelow (refs names) (Refs more)
refs_below names more set own h = go (leb (length names) most_names) refl
  where
    go : (b : Bool) → leb (length names) most_names ≡ b → IsCellBelow (cond b (Refs names) Unusable) (Refs more)
    go true e = h
    go false e = let le = length_within names more set own.set h in let few = own.few in let many = leb-false _ _ e
        in absurd (omega (arith, le, few, many))

-- the cell of a set is below that of each set that it is within
pub refs_up : (xs ys : List (List ℕ)) → IsSet xs → IsSet ys → IsWithin xs ys → IsCellBelow (refs xs) (refs ys)
refs_up xs ys h k w = go (leb (length ys) most_names) refl
  where
    go : (b : Bool) → leb (length ys) most_names ≡ b → IsCellBelow (refs xs) (cond b (Refs ys) Unusable)
    go true e = refs_below xs ys h (record { set = k; few = leb-true _ _ e }) w
    go false e = tt

own_join : (x y : Cell) → IsCell x → IsCell y → IsCell (joined_cell x y)
own_join Number Number h k = tt
own_join Number (Refs ys) h k = tt
own_join Number Unusable h k = tt
own_join (Refs xs) Number h k = tt
own_join (Refs xs) (Refs ys) h k = own_refs (union xs ys) (set_union xs ys k.set)
own_join (Refs xs) Unusable h k = tt
own_join Unusable y h k = tt

above_left : (x y : Cell) → IsCellBelow x (joined_cell x y)
above_left Number Number = tt
above_left Number (Refs ys) = tt
above_left Number Unusable = tt
above_left (Refs xs) Number = tt
above_left (Refs xs) (Refs ys) = refs_above xs (union xs ys) (union_left xs ys)
above_left (Refs xs) Unusable = tt
above_left Unusable y = tt

above_right : (x y : Cell) → IsCellBelow y (joined_cell x y)
above_right Number Number = tt
above_right Number (Refs ys) = tt
above_right Number Unusable = tt
above_right (Refs xs) Number = tt
above_right (Refs xs) (Refs ys) = refs_above ys (union xs ys) (union_right xs ys)
above_right (Refs xs) Unusable = tt
above_right Unusable y = tt

least : (x y z : Cell) → IsCell x → IsCell y → IsCell z → IsCellBelow x z → IsCellBelow y z
    → IsCellBelow (joined_cell x y) z
least x y Unusable own_x own_y own_z h k = tt
least Number Number Number own_x own_y own_z h k = tt
least Number (Refs ys) Number own_x own_y own_z h k = absurd k
least Number Unusable Number own_x own_y own_z h k = absurd k
least (Refs xs) y Number own_x own_y own_z h k = absurd h
least Unusable y Number own_x own_y own_z h k = absurd h
least Number y (Refs zs) own_x own_y own_z h k = absurd h
least (Refs xs) Number (Refs zs) own_x own_y own_z h k = absurd k
least (Refs xs) (Refs ys) (Refs zs) own_x own_y own_z h k = refs_below (union xs ys) zs (set_union xs ys own_y.set)
    own_z (union_least xs ys zs h k)
least (Refs xs) Unusable (Refs zs) own_x own_y own_z h k = absurd k
least Unusable y (Refs zs) own_x own_y own_z h k = absurd h

-- no cell stands higher in the order than an unusable one
pub rank_bounded : (x : Cell) → IsCell x → cell_rank x ≤ suc most_names
rank_bounded Number own = omega arith
rank_bounded (Refs xs) own = let few = own.few in omega (arith, few)
rank_bounded Unusable own = omega arith

ranked : (x y : Cell) → IsCell x → IsCell y → IsCellBelow x y → cell_rank x ≤ cell_rank y
ranked x Unusable own_x own_y h = rank_bounded x own_x
ranked Number Number own_x own_y h = omega arith
ranked (Refs xs) Number own_x own_y h = absurd h
ranked Unusable Number own_x own_y h = absurd h
ranked Number (Refs ys) own_x own_y h = absurd h
ranked (Refs xs) (Refs ys) own_x own_y h = length_within xs ys own_x.set own_y.set h
ranked Unusable (Refs ys) own_x own_y h = absurd h

rises : (x y : Cell) → IsCell x → IsCell y → IsCellBelow x y → cell_rank y ≤ cell_rank x → IsCellBelow y x
rises Number Number own_x own_y h l = tt
rises Number (Refs ys) own_x own_y h l = absurd h
rises Number Unusable own_x own_y h l = absurd (omega (arith, l))
rises (Refs xs) Number own_x own_y h l = absurd h
rises (Refs xs) (Refs ys) own_x own_y h l = let same = same_within xs ys own_x.set own_y.set h l
    in subst (λ (zs : List (List ℕ)). IsWithin zs xs) same (λ n is. is)
rises (Refs xs) Unusable own_x own_y h l = let few = own_x.few in absurd (omega (arith, few, l))
rises Unusable y own_x own_y h l = tt

-- cells each below the other are the same
pub same_cell : (x y : Cell) → IsCell x → IsCell y → IsCellBelow x y → IsCellBelow y x → x ≡ y
same_cell Number Number own_x own_y h k = refl
same_cell Number (Refs ys) own_x own_y h k = absurd h
same_cell Number Unusable own_x own_y h k = absurd k
same_cell (Refs xs) Number own_x own_y h k = absurd h
same_cell (Refs xs) (Refs ys) own_x own_y h k =
    ap Refs (same_within xs ys own_x.set own_y.set h (length_within ys xs own_y.set own_x.set k))
same_cell (Refs xs) Unusable own_x own_y h k = absurd k
same_cell Unusable Number own_x own_y h k = absurd h
same_cell Unusable (Refs ys) own_x own_y h k = absurd h
same_cell Unusable Unusable own_x own_y h k = refl

-- cells obey the laws of an order with joins
pub cell_lattice : IsLattice cells
cell_lattice = record {
  reflexive = λ x own. below_refl x;
  transitive = λ x y z own_x own_y own_z h k. below_trans x y z h k;
  own_join = own_join;
  above_left = λ x y own_x own_y. above_left x y;
  above_right = λ x y own_x own_y. above_right x y;
  least = least;
  ranked = ranked;
  rises = rises;
  bounded = rank_bounded;
}
