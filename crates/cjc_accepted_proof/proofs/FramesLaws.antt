-- Frames of the card that follow from those of the class file: they are frames, in the same order.
use Rattle.std.proofs.Common.{◌≡◌, ℕ, ◌+◌, ◌<◌, ◌≤◌, ◌∙◌, arith}
use Rattle.std.proofs.Common.{List, [], ◌∷◌, length, Option, All}
use Rattle.std.specs.List.{AllZip}
use Rattle.std.proofs.lemmas.List.{length-map}
use Rattle.std.proofs.lemmas.List.Elements.{All-cons, All-head, All-map, All-tail}
use Rattle.cjc_types.specs.Cells.{IsCell, IsCellBelow, cells as cells_in_order}
use Rattle.cjc_types.specs.Fixpoint.Lattice.{IsListOf}
use Rattle.cjc_types.specs.States.{IsCellStack, IsStack, IsStackBelow, states}
use Rattle.cjc_types.specs.declared.cell.Cell.{Cell}
use Rattle.cjc_types.specs.declared.cell.Cell.TheVariants.{Number, Refs, Unusable}
use Rattle.cjc_types.specs.declared.state.Stack.{Stack}
use Rattle.cjc_types.specs.declared.state.Stack.TheVariants.{Cells, Clash}
use Rattle.cjc_types.specs.declared.state.State.{State}
use Rattle.cjc_verify.specs.Narrow.Pairs.Open.{Open, begun, closed, pushed}
use Rattle.cjc_accepted_proof.specs.Frames.{AreFew, card_cell, card_cells, card_stack, card_state, left_out}
use Rattle.cjc_accepted_proof.specs.Methods.{between, without_top}
use Rattle.cjc_accepted_proof.proofs.TypesLaws.{cells_below, types_set}

module _ (card_type : List ℕ → Option (List ℕ)) where
  abbrev cells : List Cell → List Cell
  cells = card_cells card_type

  -- ---- order

  left_below : (o : Open) (xs ys : List Cell) → AllZip IsCellBelow xs ys → AllZip IsCellBelow (left_out card_type o xs)
      (left_out card_type o ys)
  left_below closed xs ys h = h
  left_below begun [] [] h = tt
  left_below begun [] (y ∷ ys) h = absurd h
  left_below begun (x ∷ xs) [] h = absurd h
  left_below begun (x ∷ xs) (y ∷ ys) h = h.1
  left_below pushed [] [] h = tt
  left_below pushed [] (y ∷ ys) h = absurd h
  left_below pushed (x ∷ xs) [] h = absurd h
  left_below pushed (x ∷ []) (y ∷ []) h = h
  left_below pushed (x ∷ []) (y ∷ v ∷ ys) h = absurd h.1
  left_below pushed (x ∷ u ∷ xs) (y ∷ []) h = absurd h.1
  left_below pushed (x ∷ u ∷ xs) (y ∷ v ∷ ys) h = (h.0, h.1.1)

  stack_below : (o : Open) (x y : Stack) → IsStackBelow x y → IsStackBelow (card_stack card_type o x) (card_stack
      card_type o y)
  stack_below o x Clash h = tt
  stack_below o Clash (Cells ys) h = absurd h
  stack_below o (Cells xs) (Cells ys) h = cells_below card_type (left_out card_type o xs) (left_out card_type o ys)
      (left_below o xs ys h)

  -- a frame below another has a frame of the card below the other's
  pub state_below : (count : ℕ) (o : Open) (x y : State) → (let s = states count in s.Below x y) → (let s = states count
      in s.Below (card_state card_type o x) (card_state card_type o y))
  state_below count o x y h = (stack_below o x.stack y.stack h.0, cells_below card_type x.locals y.locals h.1)

  -- ---- frames

  module _ (few_types : AreFew card_type) where
    cell_own : (x : Cell) → IsCell x → IsCell (card_cell card_type x)
    cell_own Number h = tt
    cell_own Unusable h = tt
    cell_own (Refs names) h = record { set = types_set card_type names; few = few_types names }

    cells_own : (xs : List Cell) → All IsCell xs → All IsCell (cells xs)
    cells_own xs h = All-map IsCell (card_cell card_type) xs (λ k d lt. cell_own _ (h k d lt))

    -- fewer cells are a stack as well
    cells_stack : (xs ys : List Cell) → IsCellStack xs → length ys ≤ length xs → All IsCell ys → IsCellStack (cells ys)
    cells_stack xs ys h le own = let few = h.few in let long = length-map ys (card_cell card_type) in record {
      few = omega (arith, few, long, le);
      own = cells_own ys own;
    }

    left_own : (o : Open) (xs : List Cell) → IsCellStack xs → IsCellStack (cells (left_out card_type o xs))
    left_own closed xs h = cells_stack xs xs h (omega arith) h.own
    left_own begun [] h = cells_stack [] [] h (omega arith) h.own
    left_own begun (x ∷ xs) h = cells_stack (x ∷ xs) xs h (omega arith) (All-tail IsCell x xs h.own)
    left_own pushed [] h = cells_stack [] [] h (omega arith) h.own
    left_own pushed (x ∷ []) h = cells_stack (x ∷ []) (x ∷ []) h (omega arith) h.own
    left_own pushed (x ∷ y ∷ xs) h = cells_stack (x ∷ y ∷ xs) (x ∷ xs) h (omega arith) (All-cons IsCell x xs (All-head
        IsCell x (y ∷ xs) h.own) (All-tail IsCell y xs (All-tail IsCell x (y ∷ xs) h.own)))

    stack_own : (o : Open) (x : Stack) → IsStack x → IsStack (card_stack card_type o x)
    stack_own o (Cells xs) h = left_own o xs h
    stack_own o Clash h = tt

    top_own : (x : Stack) → IsStack x → IsStack (without_top x)
    top_own (Cells []) h = h
    top_own (Cells (x ∷ xs)) h = let few = h.few in record { few = omega (arith, few); own = All-tail IsCell x xs h.own }
    top_own Clash h = tt

    locals_own : (n : ℕ) (xs : List Cell) → IsListOf cells_in_order n xs → IsListOf cells_in_order n (cells xs)
    locals_own n xs h = record { sized = length-map xs (card_cell card_type) ∙ h.sized; own = cells_own xs h.own }

    -- the frame of the card is one
    pub state_own : (n : ℕ) (o : Open) (x : State) → (let s = states n in s.Own x)
        → (let s = states n in s.Own (card_state
        card_type o x))
    state_own n o x h = (stack_own o x.stack h.0, locals_own n x.locals h.1)

    -- and so is one between two instructions
    pub between_own : (n : ℕ) (x : State) → (let s = states n in s.Own x) → (let s = states n in s.Own (record {
      stack = card_stack card_type closed (without_top x.stack);
      locals = cells x.locals;
    }))
    between_own n x h = (stack_own closed (without_top x.stack) (top_own x.stack h.0), locals_own n x.locals h.1)
