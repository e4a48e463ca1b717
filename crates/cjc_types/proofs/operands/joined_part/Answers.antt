use Rattle.std.proofs.Common.{◌≡◌, List, IfOk, refl, sym, subst}
use Rattle.cjc_fixpoint.specs.Lattice.{joined}
use Rattle.cjc_types.specs.declared.cell.Cell.{Cell}
use Rattle.cjc_types.specs.Cells.{joined_cell}
use Rattle.cjc_types.proofs.Upper.{joined_upper}
use Rattle.cjc_types.proofs.operands.joined_part.Goals as goal

pub returns-then-are_above-2 : goal.returns-then-are_above-2
returns-then-are_above-2 c =
    let left : List Cell = c.args.left.now in
    let right : List Cell = c.args.right.now in
    let above : joined joined_cell right left ≡ right =
    subst (λ (zs : List Cell). joined joined_cell zs left ≡ zs) c.items-3.ensures
    (subst (λ (zs : List Cell). joined joined_cell c.items-3.result.now zs ≡ c.items-3.result.now) c.items-4.ensures
    (c.if-are_above-2.ensures refl)) in
    subst (λ (zs : List Cell). IfOk c.shared-then-are_above-2.result (λ part. part ≡ zs))
    (sym (joined_upper left right c.requires.sized c.requires.left c.requires.right above))
    c.shared-then-are_above-2.ensures
