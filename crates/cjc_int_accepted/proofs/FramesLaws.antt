-- Frames of the card in int mode that follow from those of the class file: they are frames, in the same order, where no
-- cell of a stack is unusable.
use Rattle.std.proofs.Common.{◌≡◌, ℕ, zero, suc, ◌+◌, ◌*◌, ◌≤◌, refl, ap, ◌∙◌, arith, List, [], ◌∷◌, ◌++◌}
use Rattle.std.proofs.Common.{length, slice_get, Option, Some, All}
use Rattle.std.specs.List.{AllZip}
use Rattle.std.proofs.lemmas.List.Elements.{All-append, All-cons, All-head, All-nil, All-tail}
use Rattle.cjc_types.specs.Cells.{IsCell, IsCellBelow, cells as cells_in_order}
use Rattle.cjc_types.specs.Fixpoint.Lattice.{IsListOf}
use Rattle.cjc_types.specs.States.{IsStack, IsStackBelow, most_cells, states}
use Rattle.cjc_types.specs.declared.cell.Cell.{Cell}
use Rattle.cjc_types.specs.declared.cell.Cell.TheVariants.{Number, Refs, Unusable}
use Rattle.cjc_types.specs.declared.state.Stack.{Stack}
use Rattle.cjc_types.specs.declared.state.Stack.TheVariants.{Cells, Clash}
use Rattle.cjc_types.specs.declared.state.State.{State}
use Rattle.cjc_accepted_proof.specs.Frames.{AreFew, card_cell}
use Rattle.cjc_accepted_proof.proofs.RowsLaws.{zip_both, zip_itself}
use Rattle.cjc_accepted_proof.proofs.TypesLaws.{cell_below, types_set}
use Rattle.cjc_int_accepted.specs.Frames.{Room, frame_words, free, int_stack, int_state, local_words, second_word}
use Rattle.cjc_int_accepted.specs.Frames.{stack_words, words_of}
use Rattle.cjc_int_accepted.proofs.WordsLaws.{frame_long, words_few}

-- each cell of a stack is a number or a reference
abbrev pub AreUsable : List Cell → Type 0
AreUsable s = (k : ℕ) → slice_get s k ≡ Some Unusable → ⊥

module _ (card_type : List ℕ → Option (List ℕ)) (m : Room) where
  -- ---- order

  words_below : (x y : Cell) → IsCellBelow x y → (y ≡ Unusable → ⊥) → AllZip IsCellBelow (words_of card_type x)
      (words_of
      card_type y)
  words_below Number Number h usable = (tt, (tt, tt))
  words_below (Refs less) Number h usable = absurd h
  words_below Unusable Number h usable = absurd h
  words_below Number (Refs names) h usable = absurd h
  words_below Unusable (Refs names) h usable = absurd h
  words_below (Refs less) (Refs names) h usable = (cell_below card_type (Refs less) (Refs names) h, tt)
  words_below x Unusable h usable = absurd (usable refl)

  pub stack_below : (xs ys : List Cell) → AllZip IsCellBelow xs ys → AreUsable ys → AllZip IsCellBelow (stack_words
      card_type xs) (stack_words card_type ys)
  stack_below [] [] h usable = tt
  stack_below [] (y ∷ ys) h usable = absurd h
  stack_below (x ∷ xs) [] h usable = absurd h
  stack_below (x ∷ xs) (y ∷ ys) h usable = zip_both (words_of card_type x) (stack_words card_type xs) (words_of
      card_type
      y) (stack_words card_type ys) (words_below x y h.0 (λ e. usable 0 (ap Some e))) (stack_below xs ys h.1 (λ k e.
      usable (suc k) e))

  second_below : (x y : Cell) → IsCellBelow x y → IsCellBelow (second_word x) (second_word y)
  second_below Number Number h = tt
  second_below (Refs less) Number h = absurd h
  second_below Unusable Number h = absurd h
  second_below x (Refs names) h = tt
  second_below x Unusable h = tt

  pairs_below : (xs ys : List Cell) → AllZip IsCellBelow xs ys → AllZip IsCellBelow (local_words card_type xs)
      (local_words card_type ys)
  pairs_below [] [] h = tt
  pairs_below [] (y ∷ ys) h = absurd h
  pairs_below (x ∷ xs) [] h = absurd h
  pairs_below (x ∷ xs) (y ∷ ys) h = (cell_below card_type x y h.0, (second_below x y h.0, pairs_below xs ys h.1))

  pub locals_below : (xs ys : List Cell) → AllZip IsCellBelow xs ys → AllZip IsCellBelow (frame_words card_type m xs)
      (frame_words card_type m ys)
  locals_below xs ys h = zip_both (free m.arguments) (local_words card_type xs ++ free m.scratch) (free m.arguments)
      (local_words card_type ys ++ free m.scratch) (zip_itself (free m.arguments)) (zip_both (local_words card_type xs)
      (free m.scratch) (local_words card_type ys) (free m.scratch) (pairs_below xs ys h) (zip_itself (free m.scratch)))

  -- a frame below another has a frame of the card below the other's
  pub state_below : (count : ℕ) (x y : State) → (let s = states count in s.Below x y) → ((s : List Cell) → y.stack
      ≡ Cells s → AreUsable s) → (let s = states count in s.Below (int_state card_type m x) (int_state card_type m y))
  state_below count x y h usable = (by x.stack y.stack h.0 usable, locals_below x.locals y.locals h.1)
    where
      by : (s t : Stack) → IsStackBelow s t → ((u : List Cell) → t ≡ Cells u → AreUsable u) → IsStackBelow (int_stack
          card_type s) (int_stack card_type t)
      by s Clash f g = tt
      by Clash (Cells ys) f g = absurd f
      by (Cells xs) (Cells ys) f g = stack_below xs ys f (g ys refl)

  -- ---- frames

  module _ (few_types : AreFew card_type) where
    cell_own : (x : Cell) → IsCell x → IsCell (card_cell card_type x)
    cell_own Number h = tt
    cell_own Unusable h = tt
    cell_own (Refs names) h = record { set = types_set card_type names; few = few_types names }

    second_own : (x : Cell) → IsCell (second_word x)
    second_own Number = tt
    second_own (Refs names) = tt
    second_own Unusable = tt

    words_own : (x : Cell) → IsCell x → All IsCell (words_of card_type x)
    words_own Number h = All-cons IsCell Number (Number ∷ []) tt (All-cons IsCell Number [] tt (All-nil IsCell))
    words_own Unusable h = All-cons IsCell Unusable (Unusable ∷ []) tt (All-cons IsCell Unusable [] tt (All-nil IsCell))
    words_own (Refs names) h = All-cons IsCell (card_cell card_type (Refs names)) [] (cell_own (Refs names) h) (All-nil
        IsCell)

    cells_own : (xs : List Cell) → All IsCell xs → All IsCell (stack_words card_type xs)
    cells_own [] h = All-nil IsCell
    cells_own (x ∷ xs) h = All-append IsCell (words_of card_type x) (stack_words card_type xs) (words_own x (All-head
        IsCell x xs h)) (cells_own xs (All-tail IsCell x xs h))

    pairs_own : (xs : List Cell) → All IsCell xs → All IsCell (local_words card_type xs)
    pairs_own [] h = All-nil IsCell
    pairs_own (x ∷ xs) h = All-cons IsCell (card_cell card_type x) (second_word x ∷ local_words card_type xs) (cell_own
        x
        (All-head IsCell x xs h)) (All-cons IsCell (second_word x) (local_words card_type xs) (second_own x) (pairs_own
        xs
        (All-tail IsCell x xs h)))

    free_own : (n : ℕ) → All IsCell (free n)
    free_own zero = All-nil IsCell
    free_own (suc n) = All-cons IsCell Unusable (free n) tt (free_own n)

    pub frame_own : (xs : List Cell) → All IsCell xs → All IsCell (frame_words card_type m xs)
    frame_own xs h = All-append IsCell (free m.arguments) (local_words card_type xs ++ free m.scratch) (free_own
        m.arguments) (All-append IsCell (local_words card_type xs) (free m.scratch) (pairs_own xs h) (free_own
        m.scratch))

    -- the frame of the card is one, where there is room for its words
    pub state_own : (n most : ℕ) (x : State) → (let s = states n in s.Own x) → ((s : List Cell) → x.stack ≡ Cells s → 2
        * length s ≤ most) → most ≤ most_cells → (let s = states (m.arguments + 2 * n + m.scratch) in s.Own (int_state
        card_type m x))
    state_own n most x h short low = (by x.stack h.0 short, locals)
      where
        by : (s : Stack) → IsStack s → ((u : List Cell) → s ≡ Cells u → 2 * length u ≤ most) → IsStack (int_stack
            card_type s)
        by Clash f g = tt
        by (Cells s) f g = let le = g s refl in let long = words_few card_type s in record {
          few = omega (arith, le, long, low);
          own = cells_own s f.own;
        }

        locals : IsListOf cells_in_order (m.arguments + 2 * n + m.scratch) (frame_words card_type m x.locals)
        locals =
            let l = h.1 in
            let sized = l.sized in
            let long = frame_long card_type m x.locals in
            record { sized = long ∙ ap (λ k. m.arguments + 2 * k + m.scratch) sized; own = frame_own x.locals l.own }
