-- The stack's instructions in int mode: what copies and exchanges words does it by the words of the cells.
use Rattle.std.proofs.Common.{◌≡◌, ℕ, zero, suc, ◌+◌, ◌≤◌, refl, sym, ap, subst, ◌∙◌, arith, true, List, [], ◌∷◌, ◌++◌}
use Rattle.std.proofs.Common.{append_assoc, length, length-append, map, drop, Option}
use Rattle.std.proofs.lemmas.List.{length-replicate, map-append}
use Rattle.cjc_types.specs.Bytecode.declared.insn.JOp.TheVariants as jop
use Rattle.cjc_types.specs.Bytecode.Jvm as jvm
use Rattle.cjc_types.specs.Steps.{operand, stack_behind as behind_by_name}
use Rattle.cjc_types.specs.declared.cell.Cell.{Cell}
use Rattle.cjc_frames.specs.Acts.{Subtype, given}
use Rattle.cjc_frames.specs.declared.acts.Act.{Act}
use Rattle.cjc_frames.specs.declared.acts.Need.TheVariants.{AnyWord}
use Rattle.cjc_verify.specs.CardActs.Rows.{any_words, copying, operands_from, swapping}
use Rattle.cjc_accepted_proof.proofs.RowsLaws.{zip_itself}
use Rattle.cjc_int_accepted.specs.Acts.{taking}
use Rattle.cjc_int_accepted.specs.Frames.{Room, frame_words, stack_words, words_of}
use Rattle.cjc_int_accepted.specs.Runs.{IsOn, IsSound, Runs, most_words}
use Rattle.cjc_int_accepted.proofs.RowsLaws.Sound.{any_right, before_few, row_of_one, sound_taking}
use Rattle.cjc_int_accepted.proofs.RowsLaws.Sound.{zip_same}
use Rattle.cjc_int_accepted.proofs.WordsLaws.{words_both}

-- ---- words by their numbers

-- operands of these numbers from so many on
operand_past : (front : List Cell) (x : Cell) (back : List Cell) → operand (front ++ x ∷ back) (length front) ≡ x
operand_past [] x back = refl
operand_past (y ∷ front) x back = operand_past front x back

operands_are : (ls front mid back : List Cell) (k : ℕ) → k ≡ length front → map (given ls (front ++ (mid ++ back)))
    (operands_from k (length mid)) ≡ mid
operands_are ls front [] back k e = refl
operands_are ls front (x ∷ mid) back k e =
    let more : (front ++ x ∷ []) ++ (mid ++ back) ≡ front ++ (x ∷ (mid ++ back)) = append_assoc front (x ∷ []) (mid
    ++ back) in
    let long = length-append front (x ∷ []) in
    let next : k + 1 ≡ length (front ++ x ∷ []) = omega (arith, e, long) in
    let rest = operands_are ls (front ++ x ∷ []) mid back (k + 1) next in
    ap (λ y. y ∷ map (given ls (front ++ (x ∷ (mid ++ back)))) (operands_from (k + 1) (length mid))) (ap (operand (front
    ++ (x ∷ (mid ++ back)))) e ∙ operand_past front x (mid ++ back))
    ∙ ap (λ ys. x ∷ ys) (ap (λ (zs : List Cell). map (given ls zs) (operands_from (k + 1) (length mid))) (sym more)
    ∙ rest)

drop_front : (front back : List Cell) (n : ℕ) → n ≡ length front → drop n (front ++ back) ≡ back
drop_front [] back zero e = refl
drop_front [] back (suc n) e = absurd (omega (arith, e))
drop_front (x ∷ front) back zero e = absurd (omega (arith, e))
drop_front (x ∷ front) back (suc n) e = drop_front front back n (omega (arith, e))

-- words that are copied below others
copied_is : (ls xs ys back : List Cell) → map (given ls (xs ++ (ys ++ back))) (operands_from 0 (length xs + length ys)
    ++ operands_from 0 (length xs)) ++ drop (length xs + length ys) (xs ++ (ys ++ back)) ≡ (xs ++ ys) ++ (xs ++ back)
copied_is ls xs ys back =
    let all : xs ++ (ys ++ back) ≡ (xs ++ ys) ++ back = sym (append_assoc xs ys back) in
    let long : length xs + length ys ≡ length (xs ++ ys) = sym (length-append xs ys) in
    let first : map (given ls (xs ++ (ys ++ back))) (operands_from 0 (length xs + length ys)) ≡ xs ++ ys =
    ap (λ n. map (given ls (xs ++ (ys ++ back))) (operands_from 0 n)) long
    ∙ ap (λ (zs : List Cell). map (given ls zs) (operands_from 0 (length (xs ++ ys)))) all
    ∙ operands_are ls [] (xs ++ ys) back 0 refl in
    let second : map (given ls (xs ++ (ys ++ back))) (operands_from 0 (length xs)) ≡ xs = operands_are ls [] xs (ys
    ++ back) 0 refl in
    let left : drop (length xs + length ys) (xs ++ (ys ++ back)) ≡ back = ap (drop (length xs + length ys)) all
    ∙ drop_front (xs ++ ys) back (length xs + length ys) long in
    ap (λ zs. zs ++ drop (length xs + length ys) (xs ++ (ys ++ back))) (map-append (given ls (xs ++ (ys ++ back)))
    (operands_from 0 (length xs + length ys)) (operands_from 0 (length xs)))
    ∙ ap (λ zs. (zs ++ map (given ls (xs ++ (ys ++ back))) (operands_from 0 (length xs))) ++ drop (length xs + length
    ys)
    (xs ++ (ys ++ back))) first
    ∙ ap (λ zs. ((xs ++ ys) ++ zs) ++ drop (length xs + length ys) (xs ++ (ys ++ back))) second
    ∙ ap (λ zs. ((xs ++ ys) ++ xs) ++ zs) left ∙ append_assoc (xs ++ ys) xs back

-- words that change places
swapped_is : (ls xs ys back : List Cell) → map (given ls (xs ++ (ys ++ back))) (operands_from (length xs) (length ys)
    ++ operands_from 0 (length xs)) ++ drop (length xs + length ys) (xs ++ (ys ++ back)) ≡ ys ++ (xs ++ back)
swapped_is ls xs ys back =
    let all : xs ++ (ys ++ back) ≡ (xs ++ ys) ++ back = sym (append_assoc xs ys back) in
    let long : length xs + length ys ≡ length (xs ++ ys) = sym (length-append xs ys) in
    let first : map (given ls (xs ++ (ys ++ back))) (operands_from (length xs) (length ys)) ≡ ys = operands_are ls xs ys
    back (length xs) refl in
    let second : map (given ls (xs ++ (ys ++ back))) (operands_from 0 (length xs)) ≡ xs = operands_are ls [] xs (ys
    ++ back) 0 refl in
    let left : drop (length xs + length ys) (xs ++ (ys ++ back)) ≡ back = ap (drop (length xs + length ys)) all
    ∙ drop_front (xs ++ ys) back (length xs + length ys) long in
    ap (λ zs. zs ++ drop (length xs + length ys) (xs ++ (ys ++ back))) (map-append (given ls (xs ++ (ys ++ back)))
    (operands_from (length xs) (length ys)) (operands_from 0 (length xs)))
    ∙ ap (λ zs. (zs ++ map (given ls (xs ++ (ys ++ back))) (operands_from 0 (length xs))) ++ drop (length xs + length
    ys)
    (xs ++ (ys ++ back))) first
    ∙ ap (λ zs. (ys ++ zs) ++ drop (length xs + length ys) (xs ++ (ys ++ back))) second
    ∙ ap (λ zs. (ys ++ xs) ++ zs) left ∙ append_assoc ys xs back

-- ---- rows

module _ (card_type : List ℕ → Option (List ℕ)) (is_of : Subtype) (m : Room) (max_stack : ℕ) where
  abbrev words : List Cell → List Cell
  words s = stack_words card_type s

  abbrev frame : List Cell → List Cell
  frame ls = frame_words card_type m ls

  abbrev most : ℕ
  most = most_words max_stack

  -- how many words cells have
  abbrev pub count : List Cell → ℕ
  count cells = length (words cells)

  three_parts : (xs ys rest : List Cell) → words (xs ++ (ys ++ rest)) ≡ words xs ++ (words ys ++ words rest)
  three_parts xs ys rest = words_both card_type xs (ys ++ rest) ∙ ap (λ zs. words xs ++ zs) (words_both card_type ys
      rest)

  enough : (xs ys rest : List Cell) → count xs + count ys ≤ length (words (xs ++ (ys ++ rest)))
  enough xs ys rest =
      let one = ap length (three_parts xs ys rest) in
      let two = length-append (words xs) (words ys ++ words rest) in
      let three = length-append (words ys) (words rest) in
      omega (arith, one, two, three)

  -- cells are copied below others
  pub copy_runs : (op : ℕ) (xs ys rest ls : List Cell) → IsOn max_stack (jop.Stack op) ls (xs ++ (ys ++ rest))
      → behind_by_name (jop.Stack op) ls (xs ++ (ys ++ rest)) ≡ (xs ++ ys) ++ (xs ++ rest) → Runs card_type is_of m
      max_stack (jop.Stack op) (copying (count xs) (count xs + count ys) ∷ []) ls (xs ++ (ys ++ rest))
  copy_runs op xs ys rest ls on is =
      let n = count xs + count ys in
      let many : length (any_words (count xs + count ys)) ≡ count xs + count ys = length-replicate (count xs + count ys)
      AnyWord in
      let puts = operands_from 0 (count xs + count ys) ++ operands_from 0 (count xs) in
      let all = enough xs ys rest in
      let there : map (given (frame ls) (words (xs ++ (ys ++ rest)))) (operands_from 0 (count xs + count ys)
      ++ operands_from 0 (count xs)) ++ drop (length (any_words (count xs + count ys))) (words (xs ++ (ys ++ rest)))
      ≡ words (behind_by_name (jop.Stack op) ls (xs ++ (ys ++ rest))) =
      ap (λ k. map (given (frame ls) (words (xs ++ (ys ++ rest)))) (operands_from 0 (count xs + count ys) ++
      operands_from
      0 (count xs)) ++ drop k (words (xs ++ (ys ++ rest)))) many
      ∙ ap (λ (zs : List Cell). map (given (frame ls) zs) (operands_from 0 (count xs + count ys) ++ operands_from 0
      (count
      xs)) ++ drop (count xs + count ys) zs) (three_parts xs ys rest)
      ∙ copied_is (frame ls) (words xs) (words ys) (words rest)
      ∙ ap (λ zs. (words xs ++ words ys) ++ zs) (sym (words_both card_type xs rest))
      ∙ ap (λ zs. zs ++ words (xs ++ rest)) (sym (words_both card_type xs ys))
      ∙ sym (words_both card_type (xs ++ ys) (xs ++ rest)) ∙ ap words (sym is) in
      row_of_one card_type is_of m max_stack (jop.Stack op) (any_words (count xs + count ys)) (operands_from 0 (count xs
      + count ys) ++ operands_from 0 (count xs)) true [] ls (xs ++ (ys ++ rest)) on (omega (arith, many, all))
      (any_right
      is_of (count xs + count ys) (words (xs ++ (ys ++ rest)))) (zip_same _ _ there) refl

  -- cells change places
  pub swap_runs : (op : ℕ) (xs ys rest ls : List Cell) → IsOn max_stack (jop.Stack op) ls (xs ++ (ys ++ rest))
      → behind_by_name (jop.Stack op) ls (xs ++ (ys ++ rest)) ≡ ys ++ (xs ++ rest) → Runs card_type is_of m max_stack
      (jop.Stack op) (swapping (count xs) (count ys) ∷ []) ls (xs ++ (ys ++ rest))
  swap_runs op xs ys rest ls on is =
      let many : length (any_words (count xs + count ys)) ≡ count xs + count ys = length-replicate (count xs + count ys)
      AnyWord in
      let all = enough xs ys rest in
      let there : map (given (frame ls) (words (xs ++ (ys ++ rest)))) (operands_from (count xs) (count ys)
      ++ operands_from 0 (count xs)) ++ drop (length (any_words (count xs + count ys))) (words (xs ++ (ys ++ rest)))
      ≡ words (behind_by_name (jop.Stack op) ls (xs ++ (ys ++ rest))) =
      ap (λ k. map (given (frame ls) (words (xs ++ (ys ++ rest)))) (operands_from (count xs) (count ys) ++ operands_from
      0
      (count xs)) ++ drop k (words (xs ++ (ys ++ rest)))) many
      ∙ ap (λ (zs : List Cell). map (given (frame ls) zs) (operands_from (count xs) (count ys) ++ operands_from 0 (count
      xs)) ++ drop (count xs + count ys) zs) (three_parts xs ys rest)
      ∙ swapped_is (frame ls) (words xs) (words ys) (words rest)
      ∙ ap (λ zs. words ys ++ zs) (sym (words_both card_type xs rest))
      ∙ sym (words_both card_type ys (xs ++ rest)) ∙ ap words (sym is) in
      row_of_one card_type is_of m max_stack (jop.Stack op) (any_words (count xs + count ys)) (operands_from (count xs)
      (count ys) ++ operands_from 0 (count xs)) true [] ls (xs ++ (ys ++ rest)) on (omega (arith, many, all)) (any_right
      is_of (count xs + count ys) (words (xs ++ (ys ++ rest)))) (zip_same _ _ there) refl

  -- a cell is dropped
  abbrev pub dropping : Cell → Act
  dropping x = taking (any_words (length (words_of card_type x))) [] true []

  drop_word : (x : Cell) (back : List Cell) → drop (length (any_words (length (words_of card_type x)))) (words_of
      card_type x ++ back) ≡ back
  drop_word x back = drop_front (words_of card_type x) back (length (any_words (length (words_of card_type x))))
      (length-replicate (length (words_of card_type x)) AnyWord)

  pub pop_runs : (ls : List Cell) (x : Cell) (rest : List Cell) → IsOn max_stack (jop.Stack jvm.pop) ls (x ∷ rest)
      → Runs card_type is_of m max_stack (jop.Stack jvm.pop) (dropping x ∷ []) ls (x ∷ rest)
  pop_runs ls x rest on =
      let many : length (any_words (length (words_of card_type x))) ≡ length (words_of card_type x) = length-replicate
      (length (words_of card_type x)) AnyWord in
      let long = length-append (words_of card_type x) (words rest) in
      row_of_one card_type is_of m max_stack (jop.Stack jvm.pop) (any_words (length (words_of card_type x))) [] true []
      ls
      (x ∷ rest) on (omega (arith, many, long)) (any_right is_of (length (words_of card_type x)) (words (x ∷ rest)))
      (zip_same _ _ (drop_word x (words rest))) refl

  pub pop2_runs : (ls : List Cell) (x y : Cell) (rest : List Cell) → IsOn max_stack (jop.Stack jvm.pop2) ls (x ∷ y
      ∷ rest) → Runs card_type is_of m max_stack (jop.Stack jvm.pop2) (dropping x ∷ dropping y ∷ []) ls (x ∷ y ∷ rest)
  pop2_runs ls x y rest on =
      let before = before_few card_type is_of m max_stack (jop.Stack jvm.pop2) ls (x ∷ y ∷ rest) on in
      let first : length (any_words (length (words_of card_type x))) ≡ length (words_of card_type x) = length-replicate
      (length (words_of card_type x)) AnyWord in
      let second : length (any_words (length (words_of card_type y))) ≡ length (words_of card_type y) = length-replicate
      (length (words_of card_type y)) AnyWord in
      let all = length-append (words_of card_type x) (words (y ∷ rest)) in
      let less = length-append (words_of card_type y) (words rest) in
      let left = drop_word x (words (y ∷ rest)) in
      let end = drop_word y (words rest) in
      let left_long = ap length left in
      let end_long = ap length end in
      record {
        sound = (
          sound_taking is_of most (any_words (length (words_of card_type x))) [] true [] (frame ls) (words (x ∷ y ∷
              rest))
              (omega (arith, first, all)) (omega (arith, before)) (omega (arith, left_long, all, before)) (any_right
              is_of
              (length (words_of card_type x)) (words (x ∷ y ∷ rest))),
          zip_itself (frame ls),
          (
            subst (λ (zs : List Cell). IsSound is_of most (dropping y) (frame ls) zs) (sym left) (sound_taking is_of
                most
                (any_words (length (words_of card_type y))) [] true [] (frame ls) (words (y ∷ rest)) (omega (
                  arith,
                  second,
                  less,
                )) (omega (arith, all, before)) (omega (arith, end_long, less, all, before)) (any_right is_of (length
                (words_of card_type y)) (words (y ∷ rest)))),
            zip_itself (frame ls),
            tt,
          ),
        );
        stack_below = zip_same _ _ (ap (drop (length (any_words (length (words_of card_type y))))) left ∙ end);
        locals_below = zip_itself (frame ls);
      }

  -- ---- by their opcodes

  abbrev On : (op : ℕ) → (ls s : List Cell) → Type 0
  On op ls s = IsOn max_stack (jop.Stack op) ls s

  abbrev Copy : (op : ℕ) → (ls xs ys rest : List Cell) → Type 0
  Copy op ls xs ys rest = Runs card_type is_of m max_stack (jop.Stack op) (copying (count xs) (count xs + count ys) ∷
      [])
      ls (xs ++ (ys ++ rest))

  pub dup_runs : (ls : List Cell) (x : Cell) (rest : List Cell) → On jvm.dup ls (x ∷ rest) → Copy jvm.dup ls (x ∷ []) []
      rest
  dup_runs ls x rest on = copy_runs jvm.dup (x ∷ []) [] rest ls on refl

  pub dup2_runs : (ls : List Cell) (x y : Cell) (rest : List Cell) → On jvm.dup2 ls (x ∷ y ∷ rest) → Copy jvm.dup2 ls (x
      ∷ y ∷ []) [] rest
  dup2_runs ls x y rest on = copy_runs jvm.dup2 (x ∷ y ∷ []) [] rest ls on refl

  pub dup_x1_runs : (ls : List Cell) (x y : Cell) (rest : List Cell) → On jvm.dup_x1 ls (x ∷ y ∷ rest) → Copy jvm.dup_x1
      ls (x ∷ []) (y ∷ []) rest
  dup_x1_runs ls x y rest on = copy_runs jvm.dup_x1 (x ∷ []) (y ∷ []) rest ls on refl

  pub dup_x2_runs : (ls : List Cell) (x y z : Cell) (rest : List Cell) → On jvm.dup_x2 ls (x ∷ y ∷ z ∷ rest)
      → Copy jvm.dup_x2 ls (x ∷ []) (y ∷ z ∷ []) rest
  dup_x2_runs ls x y z rest on = copy_runs jvm.dup_x2 (x ∷ []) (y ∷ z ∷ []) rest ls on refl

  pub dup2_x1_runs : (ls : List Cell) (x y z : Cell) (rest : List Cell) → On jvm.dup2_x1 ls (x ∷ y ∷ z ∷ rest)
      → Copy jvm.dup2_x1 ls (x ∷ y ∷ []) (z ∷ []) rest
  dup2_x1_runs ls x y z rest on = copy_runs jvm.dup2_x1 (x ∷ y ∷ []) (z ∷ []) rest ls on refl

  pub dup2_x2_runs : (ls : List Cell) (x y z u : Cell) (rest : List Cell) → On jvm.dup2_x2 ls (x ∷ y ∷ z ∷ u ∷ rest)
      → Copy jvm.dup2_x2 ls (x ∷ y ∷ []) (z ∷ u ∷ []) rest
  dup2_x2_runs ls x y z u rest on = copy_runs jvm.dup2_x2 (x ∷ y ∷ []) (z ∷ u ∷ []) rest ls on refl

  pub swap_both : (ls : List Cell) (x y : Cell) (rest : List Cell) → On jvm.swap ls (x ∷ y ∷ rest) → Runs card_type
      is_of
      m max_stack (jop.Stack jvm.swap) (swapping (count (x ∷ [])) (count (y ∷ [])) ∷ []) ls (x ∷ y ∷ rest)
  swap_both ls x y rest on = swap_runs jvm.swap (x ∷ []) (y ∷ []) rest ls on refl
