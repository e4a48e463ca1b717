-- Cells joined in turn with ones that are above them are those.
use Rattle.std.proofs.Common.{◌≡◌, List, [], ◌∷◌, length, drop, get_or, All, refl, ◌∙◌, ap, subst, arith}
use Rattle.std.proofs.lemmas.List.Elements.{All-head, All-tail}
use Rattle.cjc_fixpoint.specs.Lattice.{joined}
use Rattle.cjc_types.specs.declared.cell.Cell.{Cell}
use Rattle.cjc_types.specs.Cells.{IsCell, IsCellBelow, joined_cell}
use Rattle.cjc_types.specs.Working.CellLaws.{cell_lattice, below_refl, same_cell}

pub joined_upper_cell : (x y : Cell) → IsCell x → IsCell y → joined_cell y x ≡ y → joined_cell x y ≡ y
joined_upper_cell x y own_x own_y above =
    let below : IsCellBelow x y = subst (λ (z : Cell). IsCellBelow x z) above (cell_lattice.above_right y x own_y own_x)
    in
    same_cell (joined_cell x y) y (cell_lattice.own_join x y own_x own_y) own_y (cell_lattice.least x y y own_x own_y
    own_y below (below_refl y)) (cell_lattice.above_right x y own_x own_y)

pub joined_upper : (xs ys : List Cell) → length xs ≡ length ys → All IsCell xs → All IsCell ys
    → joined joined_cell ys xs ≡ ys → joined joined_cell xs ys ≡ ys
joined_upper [] [] same own_x own_y above = refl
joined_upper [] (y ∷ ys) same own_x own_y above = absurd (omega (arith, same))
joined_upper (x ∷ xs) [] same own_x own_y above = absurd (omega (arith, same))
joined_upper (x ∷ xs) (y ∷ ys) same own_x own_y above =
    let first : joined_cell y x ≡ y = ap (λ (zs : List Cell). get_or zs 0 y) above in
    let rest : joined joined_cell ys xs ≡ ys = ap (drop 1) above in
    ap (λ (z : Cell). z ∷ joined joined_cell xs ys) (joined_upper_cell x y (All-head IsCell x xs own_x)
    (All-head IsCell y ys own_y) first)
    ∙ ap (λ (zs : List Cell). y ∷ zs) (joined_upper xs ys (omega (arith, same)) (All-tail IsCell x xs own_x)
    (All-tail IsCell y ys own_y) rest)
