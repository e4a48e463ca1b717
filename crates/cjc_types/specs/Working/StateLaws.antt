-- Laws of the order and the join of stacks and states, which the solver asks of the states of a flow.
use Rattle.std.proofs.Common.{◌≡◌, ◌≤◌, ◌==◌, ℕ, Bool, true, false, cond, leb, List, [], ◌∷◌, length, All, refl, sym}
use Rattle.std.proofs.Common.{◌∙◌, ap, subst}
use Rattle.std.specs.List.{AllZip}
use Rattle.std.proofs.lemmas.List.Elements.{All-head, All-tail}
use Rattle.cjc_fixpoint.specs.Lattice.{IsLattice, joined, lists_of}
use Rattle.cjc_fixpoint.proofs.Lattices.{lists_lattice, parts_lattice}
use Rattle.cjc_types.specs.declared.cell.Cell.{Cell}
use Rattle.cjc_types.specs.declared.state.Stack.{Stack}
use Rattle.cjc_types.specs.declared.state.Stack.TheVariants.{Cells, Clash}
use Rattle.cjc_types.specs.declared.state.State.{State}
use Rattle.cjc_types.specs.Cells.{IsCell, IsCellBelow, joined_cell, cells}
use Rattle.cjc_types.specs.Working.CellLaws.{cell_lattice, same_cell}
use Rattle.cjc_types.specs.States.{most_cells, stack_of, IsStack, IsStackBelow, joined_stack, clash_rank, stack_rank}
use Rattle.cjc_types.specs.States.{stacks, states}
use Rattle.cjc_types.specs.Stacks as any
use Rattle.cjc_types.specs.Stacks.{StackOf}
use Rattle.cjc_types.specs.Working.StackLaws.{stack_lattice as any_stack_lattice, own_stack_of as any_own_stack_of}
use Rattle.cjc_types.specs.Working.StackLaws.{stack_of_up as any_stack_of_up}

-- ---- stacks as stacks of any cells

abbrev stack_by : Stack → StackOf Cell
stack_by (Cells xs) = any.Cells xs
stack_by Clash = any.Clash

own_to : (s : Stack) → IsStack s → any.IsStack cells (stack_by s)
own_to (Cells xs) h = record { few = h.few; own = h.own }
own_to Clash h = tt

own_from : (s : Stack) → any.IsStack cells (stack_by s) → IsStack s
own_from (Cells xs) h = record { few = h.few; own = h.own }
own_from Clash h = tt

below_to : (x y : Stack) → IsStackBelow x y → any.IsStackBelow cells (stack_by x) (stack_by y)
below_to (Cells xs) (Cells ys) h = h
below_to Clash (Cells ys) h = h
below_to (Cells xs) Clash h = tt
below_to Clash Clash h = tt

below_from : (x y : Stack) → any.IsStackBelow cells (stack_by x) (stack_by y) → IsStackBelow x y
below_from (Cells xs) (Cells ys) h = h
below_from Clash (Cells ys) h = h
below_from (Cells xs) Clash h = tt
below_from Clash Clash h = tt

joined_is : (x y : Stack) → any.joined_stack cells (stack_by x) (stack_by y) ≡ stack_by (joined_stack x y)
joined_is (Cells xs) (Cells ys) = go (length xs == length ys)
  where
    go : (same : Bool) → cond same (any.Cells (joined joined_cell xs ys)) any.Clash
        ≡ stack_by (cond same (Cells (joined joined_cell xs ys)) Clash)
    go true = refl
    go false = refl
joined_is (Cells xs) Clash = refl
joined_is Clash (Cells ys) = refl
joined_is Clash Clash = refl

rank_is : (x : Stack) → any.stack_rank cells (stack_by x) ≡ stack_rank x
rank_is (Cells xs) = refl
rank_is Clash = refl

laws : IsLattice (any.stacks_of cells)
laws = any_stack_lattice cells cell_lattice

-- each stack is below itself
pub stack_refl : (s : Stack) → IsStack s → IsStackBelow s s
stack_refl s own = below_from s s (laws.reflexive (stack_by s) (own_to s own))

-- no stack stands higher in the order than a clash
pub stack_bounded : (x : Stack) → IsStack x → stack_rank x ≤ clash_rank
stack_bounded x own = subst (λ (n : ℕ). n ≤ clash_rank) (rank_is x) (laws.bounded (stack_by x) (own_to x own))

-- stacks obey the laws of an order with joins
pub stack_lattice : IsLattice stacks
stack_lattice = record {
  reflexive = stack_refl;
  transitive = λ x y z own_x own_y own_z h k. below_from x z (laws.transitive (stack_by x) (stack_by y) (stack_by z)
      (own_to x own_x) (own_to y own_y) (own_to z own_z) (below_to x y h) (below_to y z k));
  own_join = λ x y own_x own_y. own_from (joined_stack x y) (subst (any.IsStack cells) (joined_is x y)
      (laws.own_join (stack_by x) (stack_by y) (own_to x own_x) (own_to y own_y)));
  above_left = λ x y own_x own_y. below_from x (joined_stack x y) (subst (any.IsStackBelow cells (stack_by x))
      (joined_is x y) (laws.above_left (stack_by x) (stack_by y) (own_to x own_x) (own_to y own_y)));
  above_right = λ x y own_x own_y. below_from y (joined_stack x y) (subst (any.IsStackBelow cells (stack_by y))
      (joined_is x y) (laws.above_right (stack_by x) (stack_by y) (own_to x own_x) (own_to y own_y)));
  least = λ x y z own_x own_y own_z h k. below_from (joined_stack x y) z (subst (λ (s : StackOf Cell). any.IsStackBelow
      cells s (stack_by z)) (joined_is x y) (laws.least (stack_by x) (stack_by y) (stack_by z) (own_to x own_x)
      (own_to y own_y) (own_to z own_z) (below_to x z h) (below_to y z k)));
  ranked = λ x y own_x own_y h. subst (λ (n : ℕ). stack_rank x ≤ n) (rank_is y)
      (subst (λ (n : ℕ). n ≤ any.stack_rank cells (stack_by y)) (rank_is x) (laws.ranked (stack_by x) (stack_by y)
      (own_to x own_x) (own_to y own_y) (below_to x y h)));
  rises = λ x y own_x own_y h less. below_from y x (laws.rises (stack_by x) (stack_by y) (own_to x own_x)
      (own_to y own_y) (below_to x y h)
      (subst (λ (n : ℕ). n ≤ any.stack_rank cells (stack_by x)) (sym (rank_is y)) (subst (λ (n : ℕ). stack_rank y ≤ n)
      (sym (rank_is x)) less)));
  bounded = stack_bounded;
}

-- the states of a method with so many locals obey the laws of an order with joins
pub state_lattice : (max_locals : ℕ) → IsLattice (states max_locals)
state_lattice max_locals = parts_lattice stacks (lists_of cells max_locals) (λ (s : State). s.stack)
    (λ (s : State). s.locals) (λ stack locals. record { stack = stack; locals = locals }) stack_lattice
    (lists_lattice cells cell_lattice max_locals) (λ a b. refl) (λ a b. refl)

-- ---- a stack that is cut off

cut_is : (xs : List Cell) → any.stack_of xs ≡ stack_by (stack_of xs)
cut_is xs = go (leb (length xs) most_cells)
  where
    go : (fits : Bool) → cond fits (any.Cells xs) any.Clash ≡ stack_by (cond fits (Cells xs) Clash)
    go true = refl
    go false = refl

-- a stack of own cells is own
pub own_stack_of : (xs : List Cell) → All IsCell xs → IsStack (stack_of xs)
own_stack_of xs own = own_from (stack_of xs) (subst (any.IsStack cells) (cut_is xs) (any_own_stack_of cells cell_lattice
    xs own))

-- a stack grows with its cells
pub stack_of_up : (xs ys : List Cell) → AllZip IsCellBelow xs ys → IsStackBelow (stack_of xs) (stack_of ys)
stack_of_up xs ys h = below_from (stack_of xs) (stack_of ys)
    (subst (any.IsStackBelow cells (stack_by (stack_of xs))) (cut_is ys) (subst (λ (s : StackOf Cell). any.IsStackBelow
    cells s (any.stack_of ys)) (cut_is xs) (any_stack_of_up cells cell_lattice xs ys h)))

-- ---- states each below the other are the same

same_cells : (xs ys : List Cell) → All IsCell xs → All IsCell ys → AllZip IsCellBelow xs ys → AllZip IsCellBelow ys xs
    → xs ≡ ys
same_cells [] [] own_xs own_ys h k = refl
same_cells [] (y ∷ ys) own_xs own_ys h k = absurd h
same_cells (x ∷ xs) [] own_xs own_ys h k = absurd h
same_cells (x ∷ xs) (y ∷ ys) own_xs own_ys h k =
    let first : x ≡ y = same_cell x y (All-head IsCell x xs own_xs) (All-head IsCell y ys own_ys) h.0 k.0 in
    let rest : xs ≡ ys = same_cells xs ys (All-tail IsCell x xs own_xs) (All-tail IsCell y ys own_ys) h.1 k.1 in
    cc

same_stack : (x y : Stack) → IsStack x → IsStack y → IsStackBelow x y → IsStackBelow y x → x ≡ y
same_stack (Cells xs) (Cells ys) own_x own_y h k = ap Cells (same_cells xs ys own_x.own own_y.own h k)
same_stack (Cells xs) Clash own_x own_y h k = absurd k
same_stack Clash (Cells ys) own_x own_y h k = absurd h
same_stack Clash Clash own_x own_y h k = refl

-- own states each below the other are the same
pub same_state : (max_locals : ℕ) (x y : State) → (states max_locals).Own x → (states max_locals).Own y
    → (states max_locals).Below x y → (states max_locals).Below y x → x ≡ y
same_state max_locals x y own_x own_y h k =
    let stack : x.stack ≡ y.stack = same_stack x.stack y.stack own_x.0 own_y.0 h.0 k.0 in
    let locals : x.locals ≡ y.locals = same_cells x.locals y.locals own_x.1.own own_y.1.own h.1 k.1 in
    let make : Stack → List Cell → State = λ s l. record { stack = s; locals = l } in
    ap (λ (s : Stack). make s x.locals) stack ∙ ap (λ (l : List Cell). make y.stack l) locals
