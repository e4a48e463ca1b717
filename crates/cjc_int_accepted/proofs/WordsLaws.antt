-- The words of cells: how many there are, and where those of a local stand.
use Rattle.std.proofs.Common.{◌≡◌, ℕ, zero, suc, ◌+◌, ◌-◌, ◌*◌, ◌<◌, ◌≤◌, refl, sym, ap, subst, ◌∙◌, arith}
use Rattle.std.proofs.Common.{List, [], ◌∷◌, ◌++◌, length, length-append, drop, slice_get, slice_set}
use Rattle.std.proofs.Common.{Option}
use Rattle.std.proofs.Common.{Some, append_assoc}
use Rattle.std.specs.List.{AllZip}
use Rattle.std.proofs.lemmas.List.{length-replicate, set-append_right}
use Rattle.cjc_types.proofs.BytesGets.{get_back}
use Rattle.cjc_types.specs.Cells.{IsCellBelow}
use Rattle.cjc_types.specs.Steps.{operand}
use Rattle.cjc_types.specs.declared.cell.Cell.{Cell}
use Rattle.cjc_types.specs.declared.cell.Cell.TheVariants.{Number, Refs, Unusable}
use Rattle.cjc_accepted_proof.specs.Frames.{card_cell}
use Rattle.cjc_accepted_proof.proofs.RowsLaws.{cell_itself, zip_both, zip_itself}
use Rattle.cjc_int_accepted.specs.Frames.{Room, frame_words, free, local_words, second_word, stack_words, word_of}
use Rattle.cjc_int_accepted.specs.Frames.{words_of}

-- ---- lists

-- an item, where it is looked up
pub operand_got : (xs : List Cell) (k : ℕ) (x : Cell) → slice_get xs k ≡ Some x → operand xs k ≡ x
operand_got [] k x e = absurd cc
operand_got (y ∷ xs) zero x e = cc
operand_got (y ∷ xs) (suc k) x e = operand_got xs k x e

-- behind so many
pub set_past : (xs ys : List Cell) (k n : ℕ) (y : Cell) → n ≡ length xs + k → slice_set (xs ++ ys) n y ≡ xs ++ slice_set
    ys k y
set_past xs ys k n y e =
    let back : length xs + k - length xs ≡ k = omega arith in
    ap (λ j. slice_set (xs ++ ys) j y) e ∙ set-append_right xs ys (length xs) (length xs + k) y refl (omega arith)
    ∙ ap (λ j. xs ++ slice_set ys j y) back

pub drop_past : (xs ys : List Cell) (n : ℕ) → drop (length xs + n) (xs ++ ys) ≡ drop n ys
drop_past [] ys n = let none : 0 + n ≡ n = omega arith in ap (λ k. drop k ys) none
drop_past (x ∷ xs) ys n =
    let up : suc (length xs) + n ≡ suc (length xs + n) = omega arith in
    ap (λ k. drop k (x ∷ (xs ++ ys))) up ∙ drop_past xs ys n

-- below words of which nothing is known are all
pub zip_free : (xs : List Cell) (n : ℕ) → length xs ≡ n → AllZip IsCellBelow xs (free n)
zip_free [] zero e = tt
zip_free [] (suc n) e = absurd (omega (arith, e))
zip_free (x ∷ xs) zero e = absurd (omega (arith, e))
zip_free (x ∷ xs) (suc n) e = (tt, zip_free xs n (omega (arith, e)))

module _ (card_type : List ℕ → Option (List ℕ)) where
  abbrev words : List Cell → List Cell
  words cells = stack_words card_type cells

  abbrev pairs : List Cell → List Cell
  pairs cells = local_words card_type cells

  -- ---- the stack

  -- a cell has one word or two
  few_words : (x : Cell) → length (words_of card_type x) ≤ 2
  few_words Number = omega arith
  few_words (Refs names) = omega arith
  few_words Unusable = omega arith

  pub words_few : (s : List Cell) → length (words s) ≤ 2 * length s
  words_few [] = omega arith
  words_few (x ∷ s) =
      let rest = words_few s in
      let here = few_words x in
      let long = length-append (words_of card_type x) (words s) in
      omega (arith, rest, here, long)

  -- and at least one
  pub words_some : (s : List Cell) → length s ≤ length (words s)
  words_some [] = omega arith
  words_some (x ∷ s) =
      let rest = words_some s in
      let here = some x in
      let long = length-append (words_of card_type x) (words s) in
      omega (arith, rest, here, long)
    where
      some : (y : Cell) → 1 ≤ length (words_of card_type y)
      some Number = omega arith
      some (Refs names) = omega arith
      some Unusable = omega arith

  pub words_both : (xs ys : List Cell) → words (xs ++ ys) ≡ words xs ++ words ys
  words_both [] ys = refl
  words_both (x ∷ xs) ys = ap (λ zs. words_of card_type x ++ zs) (words_both xs ys) ∙ sym (append_assoc (words_of
      card_type x) (words xs) (words ys))

  -- ---- locals

  pub pairs_long : (ls : List Cell) → length (pairs ls) ≡ 2 * length ls
  pairs_long [] = refl
  pairs_long (x ∷ ls) = let rest = pairs_long ls in omega (arith, rest)

  -- the words of a local among those of all
  pair_first : (ls tail : List Cell) (l : ℕ) → l < length ls → slice_get (pairs ls ++ tail) (2 * l) ≡ Some (card_cell
      card_type (operand ls l))
  pair_first [] tail l lt = absurd (omega (arith, lt))
  pair_first (x ∷ ls) tail zero lt = refl
  pair_first (x ∷ ls) tail (suc l) lt =
      let up : 2 * suc l ≡ suc (suc (2 * l)) = omega arith in
      ap (slice_get (pairs (x ∷ ls) ++ tail)) up ∙ pair_first ls tail l (omega (arith, lt))

  pair_second : (ls tail : List Cell) (l : ℕ) → l < length ls → slice_get (pairs ls ++ tail) (2 * l + 1) ≡ Some
      (second_word (operand ls l))
  pair_second [] tail l lt = absurd (omega (arith, lt))
  pair_second (x ∷ ls) tail zero lt = refl
  pair_second (x ∷ ls) tail (suc l) lt =
      let up : 2 * suc l + 1 ≡ suc (suc (2 * l + 1)) = omega arith in
      ap (slice_get (pairs (x ∷ ls) ++ tail)) up ∙ pair_second ls tail l (omega (arith, lt))

  -- with both of them changed
  pair_set : (ls tail : List Cell) (l : ℕ) (y : Cell) → l < length ls → slice_set (slice_set (pairs ls ++ tail) (2 * l)
      (card_cell card_type y)) (2 * l + 1) (second_word y) ≡ pairs (slice_set ls l y) ++ tail
  pair_set [] tail l y lt = absurd (omega (arith, lt))
  pair_set (x ∷ ls) tail zero y lt = refl
  pair_set (x ∷ ls) tail (suc l) y lt =
      let up : 2 * suc l ≡ suc (suc (2 * l)) = omega arith in
      let over : 2 * suc l + 1 ≡ suc (suc (2 * l + 1)) = omega arith in
      ap (λ n. slice_set (slice_set (pairs (x ∷ ls) ++ tail) n (card_cell card_type y)) (2 * suc l + 1) (second_word y))
      up
      ∙ ap (λ n. slice_set (slice_set (pairs (x ∷ ls) ++ tail) (suc (suc (2 * l))) (card_cell card_type y)) n
      (second_word y)) over
      ∙ ap (λ zs. card_cell card_type x ∷ second_word x ∷ zs) (pair_set ls tail l y (omega (arith, lt)))

  -- with the first changed to a reference, whatever the second is
  pair_set_first : (ls tail : List Cell) (l : ℕ) (y : Cell) → l < length ls → second_word y ≡ Unusable
      → AllZip IsCellBelow (slice_set (pairs ls ++ tail) (2 * l) (card_cell card_type y)) (pairs (slice_set ls l y) ++
      tail)
  pair_set_first [] tail l y lt e = absurd (omega (arith, lt))
  pair_set_first (x ∷ ls) tail zero y lt e = (
    cell_itself (card_cell card_type y),
    (subst (λ (z : Cell). IsCellBelow (second_word x) z) (sym e) tt, zip_itself (pairs ls ++ tail)),
  )
  pair_set_first (x ∷ ls) tail (suc l) y lt e =
      let up : 2 * suc l ≡ suc (suc (2 * l)) = omega arith in
      subst (λ n. AllZip IsCellBelow (slice_set (pairs (x ∷ ls) ++ tail) n (card_cell card_type y)) (pairs (slice_set
      (x ∷ ls) (suc l) y) ++ tail)) (sym up) (
        cell_itself (card_cell card_type x),
        (cell_itself (second_word x), pair_set_first ls tail l y (omega (arith, lt)) e),
      )

  -- ---- frames

  module _ (m : Room) where
    abbrev frame : List Cell → List Cell
    frame ls = frame_words card_type m ls

    abbrev tail : List Cell
    tail = free m.scratch

    pub frame_long : (ls : List Cell) → length (frame ls) ≡ m.arguments + 2 * length ls + m.scratch
    frame_long ls =
        let front = length-replicate m.arguments Unusable in
        let back = length-replicate m.scratch Unusable in
        let mid = pairs_long ls in
        let one = length-append (free m.arguments) (pairs ls ++ tail) in
        let two = length-append (pairs ls) tail in
        omega (arith, front, back, mid, one, two)

    behind_arguments : (k : ℕ) (ls : List Cell) → slice_get (frame ls) (m.arguments + k) ≡ slice_get (pairs ls ++ tail)
        k
    behind_arguments k ls =
        let front = length-replicate m.arguments Unusable in
        let back : m.arguments + k - length (free m.arguments) ≡ k = omega (arith, front) in
        get_back (free m.arguments) (pairs ls ++ tail) (m.arguments + k) (omega (arith, front)) ∙ ap (slice_get (pairs
        ls ++ tail)) back

    -- the two words of a local
    pub first_there : (ls : List Cell) (l : ℕ) → l < length ls → slice_get (frame ls) (word_of m l) ≡ Some (card_cell
        card_type (operand ls l))
    first_there ls l lt = behind_arguments (2 * l) ls ∙ pair_first ls tail l lt

    pub second_there : (ls : List Cell) (l : ℕ) → l < length ls → slice_get (frame ls) (word_of m l + 1) ≡ Some
        (second_word (operand ls l))
    second_there ls l lt =
        let same : m.arguments + 2 * l + 1 ≡ m.arguments + (2 * l + 1) = omega arith in
        ap (slice_get (frame ls)) same ∙ behind_arguments (2 * l + 1) ls ∙ pair_second ls tail l lt

    set_behind : (k : ℕ) (xs : List Cell) (y : Cell) → slice_set (free m.arguments ++ xs) (m.arguments + k) y ≡ free
        m.arguments ++ slice_set xs k y
    set_behind k xs y =
        let front = length-replicate m.arguments Unusable in
        let back : m.arguments + k - m.arguments ≡ k = omega arith in
        set-append_right (free m.arguments) xs m.arguments (m.arguments + k) y front (omega arith) ∙ ap (λ n. free
        m.arguments ++ slice_set xs n y) back

    -- a local with other words
    pub local_set : (ls : List Cell) (l : ℕ) (y : Cell) → l < length ls → slice_set (slice_set (frame ls) (word_of m l)
        (card_cell card_type y)) (word_of m l + 1) (second_word y) ≡ frame (slice_set ls l y)
    local_set ls l y lt =
        let same : m.arguments + 2 * l + 1 ≡ m.arguments + (2 * l + 1) = omega arith in
        ap (λ xs. slice_set xs (word_of m l + 1) (second_word y)) (set_behind (2 * l) (pairs ls ++ tail) (card_cell
        card_type y))
        ∙ ap (λ n. slice_set (free m.arguments ++ slice_set (pairs ls ++ tail) (2 * l) (card_cell card_type y)) n
        (second_word y)) same
        ∙ set_behind (2 * l + 1) (slice_set (pairs ls ++ tail) (2 * l) (card_cell card_type y)) (second_word y)
        ∙ ap (λ xs. free m.arguments ++ xs) (pair_set ls tail l y lt)

    pub local_set_first : (ls : List Cell) (l : ℕ) (y : Cell) → l < length ls → second_word y ≡ Unusable → AllZip
        IsCellBelow (slice_set (frame ls) (word_of m l) (card_cell card_type y)) (frame (slice_set ls l y))
    local_set_first ls l y lt e = subst (λ (xs : List Cell). AllZip IsCellBelow xs (frame (slice_set ls l y))) (sym
        (set_behind (2 * l) (pairs ls ++ tail) (card_cell card_type y))) (zip_both (free m.arguments) (slice_set (pairs
        ls ++ tail) (2 * l) (card_cell card_type y)) (free m.arguments) (pairs (slice_set ls l y) ++ tail) (zip_itself
        (free m.arguments)) (pair_set_first ls tail l y lt e))
