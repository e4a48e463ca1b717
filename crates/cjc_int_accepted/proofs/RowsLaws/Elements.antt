-- Loads and stores of elements in int mode: the index becomes one word by its guard.
use Rattle.std.proofs.Common.{◌≡◌, ℕ, ◌+◌, ◌≤◌, refl, sym, ap, subst, ◌∙◌, arith, Bool, true, false}
use Rattle.std.proofs.Common.{List, [], ◌∷◌, ◌++◌, append_assoc, length, length-append, drop, Option, Some}
use Rattle.std.specs.Prelude.{◌||◌, ◌==◌, not, nat_le, if◌then◌else◌}
use Rattle.std.specs.List.{AllZip, list_all}
use Rattle.cjc_types.specs.Bytecode.Jvm as jvm
use Rattle.cjc_types.specs.Bytecode.declared.insn.JOp.TheVariants as jop
use Rattle.cjc_types.specs.Cells.{IsCellBelow, most_names, refs}
use Rattle.cjc_types.specs.Types.{element_of as element_by_name, elements as elements_by_name}
use Rattle.cjc_types.specs.declared.cell.Cell.{Cell}
use Rattle.cjc_types.specs.declared.cell.Cell.TheVariants.{Number, Refs, Unusable}
use Rattle.cjc_frames.specs.Acts.{Subtype, has_wrong}
use Rattle.cjc_frames.specs.Types.{begins_with, element_of}
use Rattle.cjc_frames.specs.declared.acts.Act.{Act}
use Rattle.cjc_frames.specs.declared.acts.Given.TheVariants.{ANumber, Element, Item}
use Rattle.cjc_frames.specs.declared.acts.Need.TheVariants.{NumberWord, OfArrays}
use Rattle.cjc_verify.specs.CardActs.CardTypes.{arrays_of}
use Rattle.cjc_verify.specs.CardActs.Rows.{any_words, calculating, letter_needs, number_words}
use Rattle.cjc_verify.specs.CardActs.Rows.{operands_from, storing_item, swapping}
use Rattle.cjc_verify.specs.CardSemantics.Bytecode.Effects as letters
use Rattle.cjc_accepted_proof.specs.Frames.{card_cell, types_named}
use Rattle.cjc_accepted_proof.proofs.RowsLaws.{zip_itself}
use Rattle.cjc_int_accepted.specs.Acts.{guarding, indexing, reading_item, writing_item}
use Rattle.cjc_int_accepted.specs.Frames.{Room, frame_words, stack_words}
use Rattle.cjc_int_accepted.specs.Runs.{AreSound, IsOn, IsSound, Runs, locals_through, most_words, stack_through}
use Rattle.cjc_int_accepted.proofs.RowsLaws.Sound.{before_few, narrow_sound, push_sound, sound_taking}
use Rattle.cjc_int_accepted.proofs.RowsLaws.Sound.{widen_sound, zip_same}
use Rattle.cjc_int_accepted.proofs.RunsLaws.{locals_both, sound_both, stack_both}

module _ (is_of : Subtype) (most : ℕ) (base ls : List Cell) (below : AllZip IsCellBelow ls base) where
  abbrev Sound : List Act → List Cell → Type 0
  Sound acts s = AreSound is_of most base acts ls s

  -- ---- the guard

  pub guard_sound : (inside : Bool) (targets : List ℕ) (s : List Cell) → length s + 6 ≤ most → Sound (guarding inside
      targets) (Number ∷ Number ∷ s)
  guard_sound true targets s few = (narrow_sound is_of most ls s (omega (arith, few)), below, tt)
  guard_sound false targets s few = (
    sound_taking is_of most (any_words 2) (operands_from 0 2 ++ operands_from 0 2) true [] ls (Number ∷ Number ∷ s)
        (omega arith) (omega (arith, few)) (omega (arith, few)) refl,
    below,
    (
      sound_taking is_of most (any_words 2) (operands_from 0 2 ++ operands_from 0 2) true [] ls (Number ∷ Number ∷
          Number
          ∷ Number ∷ s) (omega arith) (omega (arith, few)) (omega (arith, few)) refl,
      below,
      (
        narrow_sound is_of most ls (Number ∷ Number ∷ Number ∷ Number ∷ s) (omega (arith, few)),
        below,
        (
          widen_sound is_of most ls (Number ∷ Number ∷ Number ∷ Number ∷ s) (omega (arith, few)),
          below,
          (
            sound_taking is_of most (number_words 4) (ANumber ∷ []) true [] ls (Number ∷ Number ∷ Number ∷ Number
                ∷ Number ∷ Number ∷ s) (omega arith) (omega (arith, few)) (omega (arith, few)) refl,
            below,
            (
              sound_taking is_of most (NumberWord ∷ []) [] true targets ls (Number ∷ Number ∷ Number ∷ s) (omega arith)
                  (omega (arith, few)) (omega (arith, few)) refl,
              below,
              (
                sound_taking is_of most (any_words 2) [] true [] ls (Number ∷ Number ∷ s) (omega arith) (omega (
                  arith,
                  few,
                )) (omega (arith, few)) refl,
                below,
                (
                  push_sound is_of most ls s (omega (arith, few)),
                  below,
                  (narrow_sound is_of most ls s (omega (arith, few)), below, tt),
                ),
              ),
            ),
          ),
        ),
      ),
    ),
  )

  guard_stack : (inside : Bool) (targets : List ℕ) (s : List Cell) → stack_through (guarding inside targets) ls (Number
      ∷ Number ∷ s) ≡ Number ∷ s
  guard_stack true targets s = refl
  guard_stack false targets s = refl

  guard_locals : (inside : Bool) (targets : List ℕ) (s : List Cell) → locals_through (guarding inside targets) ls
      (Number
      ∷ Number ∷ s) ≡ ls
  guard_locals true targets s = refl
  guard_locals false targets s = refl

  -- what stands behind the guard
  pub guard_then : (inside : Bool) (targets : List ℕ) (acts : List Act) (s : List Cell) → length s + 6 ≤ most → Sound
      acts (Number ∷ s) → Sound (guarding inside targets ++ acts) (Number ∷ Number ∷ s)
  guard_then inside targets acts s few is = sound_both is_of most base (guarding inside targets) acts ls (Number ∷
      Number
      ∷ s) (guard_sound inside targets s few) (subst (λ (xs : List Cell). AreSound is_of most base acts xs
      (stack_through
      (guarding inside targets) ls (Number ∷ Number ∷ s))) (sym (guard_locals inside targets s)) (subst (λ (xs : List
      Cell). AreSound is_of most base acts ls xs) (sym (guard_stack inside targets s)) is))

  pub guard_then_stack : (inside : Bool) (targets : List ℕ) (acts : List Act) (s : List Cell) → stack_through (guarding
      inside targets ++ acts) ls (Number ∷ Number ∷ s) ≡ stack_through acts ls (Number ∷ s)
  guard_then_stack inside targets acts s = stack_both (guarding inside targets) acts ls (Number ∷ Number ∷ s)
      ∙ ap (λ (xs : List Cell). stack_through acts xs (stack_through (guarding inside targets) ls (Number ∷ Number ∷
      s)))
      (guard_locals inside targets s) ∙ ap (stack_through acts ls) (guard_stack inside targets s)

  pub guard_then_locals : (inside : Bool) (targets : List ℕ) (acts : List Act) (s : List Cell) → locals_through
      (guarding
      inside targets ++ acts) ls (Number ∷ Number ∷ s) ≡ locals_through acts ls (Number ∷ s)
  guard_then_locals inside targets acts s = locals_both (guarding inside targets) acts ls (Number ∷ Number ∷ s)
      ∙ ap (λ (xs : List Cell). locals_through acts xs (stack_through (guarding inside targets) ls (Number ∷ Number
      ∷ s))) (guard_locals inside targets s) ∙ ap (locals_through acts ls) (guard_stack inside targets s)

  -- ---- an element

  module _ (types : List (List ℕ)) where
    -- an index on an array that serves a letter
    abbrev Serves : letters.Letter → Type 0
    Serves letter = list_all (begins_with (arrays_of letter)) types ≡ true

    load_right : (letter : letters.Letter) → Serves letter → (s : List Cell) → has_wrong is_of (NumberWord ∷ OfArrays
        (arrays_of letter) ∷ []) (Number ∷ Refs types ∷ s) ≡ false
    load_right letter e s = ap (λ v. not v || false) e

    pub load_sound : (letter : letters.Letter) → Serves letter → (s : List Cell) → length s + 7 ≤ most → Sound
        (reading_item letter) (Number ∷ Refs types ∷ s)
    load_sound letters.Reference e s few = (
      sound_taking is_of most (NumberWord ∷ OfArrays (arrays_of letters.Reference) ∷ []) (Element 1 ∷ []) true [] ls
          (Number ∷ Refs types ∷ s) (omega arith) (omega (arith, few)) (omega (arith, few)) (load_right
          letters.Reference e s),
      below,
      tt,
    )
    load_sound letters.Byte e s few = (
      sound_taking is_of most (NumberWord ∷ OfArrays (arrays_of letters.Byte) ∷ []) (Item 1 ∷ []) true [] ls (Number
          ∷ Refs types ∷ s) (omega arith) (omega (arith, few)) (omega (arith, few)) (load_right letters.Byte e s),
      below,
      (widen_sound is_of most ls s (omega (arith, few)), below, tt),
    )
    load_sound letters.Short e s few = (
      sound_taking is_of most (NumberWord ∷ OfArrays (arrays_of letters.Short) ∷ []) (Item 1 ∷ []) true [] ls (Number
          ∷ Refs types ∷ s) (omega arith) (omega (arith, few)) (omega (arith, few)) (load_right letters.Short e s),
      below,
      (widen_sound is_of most ls s (omega (arith, few)), below, tt),
    )
    load_sound letters.Int e s few = (
      sound_taking is_of most (NumberWord ∷ OfArrays (arrays_of letters.Int) ∷ []) (Item 1 ∷ Item 1 ∷ []) true [] ls
          (Number ∷ Refs types ∷ s) (omega arith) (omega (arith, few)) (omega (arith, few)) (load_right letters.Int e
          s),
      below,
      tt,
    )

  -- a value of one word and the index below it
  module _ (v : Cell) (targets : List ℕ) (inside : Bool) where
    pub one_sound : (acts : List Act) (s : List Cell) → length s + 7 ≤ most → Sound acts (v ∷ Number ∷ s) → Sound
        (indexing 1 inside targets ++ acts) (v ∷ Number ∷ Number ∷ s)
    one_sound acts s few is = (
      sound_taking is_of most (any_words 3) (operands_from 1 2 ++ operands_from 0 1) true [] ls (v ∷ Number ∷ Number ∷
          s)
          (omega arith) (omega (arith, few)) (omega (arith, few)) refl,
      below,
      subst (λ (xs : List Act). Sound xs (Number ∷ Number ∷ v ∷ s)) (sym (append_assoc (guarding inside targets)
          (swapping 1 1 ∷ []) acts)) (guard_then inside targets (swapping 1 1 ∷ acts) (v ∷ s) (omega (arith, few)) (
            sound_taking is_of most (any_words 2) (operands_from 1 1 ++ operands_from 0 1) true [] ls (Number ∷ v ∷ s)
                (omega arith) (omega (arith, few)) (omega (arith, few)) refl,
            below,
            is,
          )),
    )

    pub one_stack : (acts : List Act) (s : List Cell) → stack_through (indexing 1 inside targets ++ acts) ls (v ∷ Number
        ∷ Number ∷ s) ≡ stack_through acts ls (v ∷ Number ∷ s)
    one_stack acts s = ap (λ (xs : List Act). stack_through xs ls (Number ∷ Number ∷ v ∷ s)) (append_assoc (guarding
        inside targets) (swapping 1 1 ∷ []) acts) ∙ guard_then_stack inside targets (swapping 1 1 ∷ acts) (v ∷ s)

    pub one_locals : (acts : List Act) (s : List Cell) → locals_through (indexing 1 inside targets ++ acts) ls (v
        ∷ Number ∷ Number ∷ s) ≡ locals_through acts ls (v ∷ Number ∷ s)
    one_locals acts s = ap (λ (xs : List Act). locals_through xs ls (Number ∷ Number ∷ v ∷ s)) (append_assoc (guarding
        inside targets) (swapping 1 1 ∷ []) acts) ∙ guard_then_locals inside targets (swapping 1 1 ∷ acts) (v ∷ s)

  -- a number of two words and the index below it
  module _ (targets : List ℕ) (inside : Bool) where
    pub two_sound : (acts : List Act) (s : List Cell) → length s + 8 ≤ most → Sound acts (Number ∷ Number ∷ Number ∷ s)
        → Sound (indexing 2 inside targets ++ acts) (Number ∷ Number ∷ Number ∷ Number ∷ s)
    two_sound acts s few is = (
      sound_taking is_of most (any_words 4) (operands_from 2 2 ++ operands_from 0 2) true [] ls (Number ∷ Number ∷
          Number
          ∷ Number ∷ s) (omega arith) (omega (arith, few)) (omega (arith, few)) refl,
      below,
      subst (λ (xs : List Act). Sound xs (Number ∷ Number ∷ Number ∷ Number ∷ s)) (sym (append_assoc (guarding inside
          targets) (swapping 1 2 ∷ []) acts)) (guard_then inside targets (swapping 1 2 ∷ acts) (Number ∷ Number ∷ s)
          (omega (arith, few)) (
            sound_taking is_of most (any_words 3) (operands_from 1 2 ++ operands_from 0 1) true [] ls (Number ∷ Number
                ∷ Number ∷ s) (omega arith) (omega (arith, few)) (omega (arith, few)) refl,
            below,
            is,
          )),
    )

    pub two_stack : (acts : List Act) (s : List Cell) → stack_through (indexing 2 inside targets ++ acts) ls (Number
        ∷ Number ∷ Number ∷ Number ∷ s) ≡ stack_through acts ls (Number ∷ Number ∷ Number ∷ s)
    two_stack acts s = ap (λ (xs : List Act). stack_through xs ls (Number ∷ Number ∷ Number ∷ Number ∷ s)) (append_assoc
        (guarding inside targets) (swapping 1 2 ∷ []) acts) ∙ guard_then_stack inside targets (swapping 1 2 ∷ acts)
        (Number ∷ Number ∷ s)

    pub two_locals : (acts : List Act) (s : List Cell) → locals_through (indexing 2 inside targets ++ acts) ls (Number
        ∷ Number ∷ Number ∷ Number ∷ s) ≡ locals_through acts ls (Number ∷ Number ∷ Number ∷ s)
    two_locals acts s = ap (λ (xs : List Act). locals_through xs ls (Number ∷ Number ∷ Number ∷ Number ∷ s))
        (append_assoc
        (guarding inside targets) (swapping 1 2 ∷ []) acts) ∙ guard_then_locals inside targets (swapping 1 2 ∷ acts)
        (Number ∷ Number ∷ s)

-- ---- rows

module _ (card_type : List ℕ → Option (List ℕ)) (is_of : Subtype) (m : Room) (max_stack : ℕ) where
  abbrev words : List Cell → List Cell
  words s = stack_words card_type s

  abbrev frame : List Cell → List Cell
  frame ls = frame_words card_type m ls

  abbrev most : ℕ
  most = most_words max_stack

  abbrev types : List (List ℕ) → List (List ℕ)
  types names = types_named card_type names

  -- the arrays of these names serve a letter
  abbrev pub ServesItems : letters.Letter → List (List ℕ) → Type 0
  ServesItems letter names = list_all (begins_with (arrays_of letter)) (types names) ≡ true

  module _ (op : ℕ) (inside : Bool) (targets : List ℕ) (ls : List Cell) (names : List (List ℕ)) (s : List Cell)
      (on : IsOn max_stack (jop.ArrayLoad op) ls (Number ∷ Refs names ∷ s)) where
    abbrev stack : List Cell
    stack = Number ∷ Refs (types names) ∷ words s

    few : length (words s) + 7 ≤ most
    few = let before = before_few card_type is_of m max_stack (jop.ArrayLoad op) ls (Number ∷ Refs names ∷ s) on in
        omega (arith, before)

    loading_sound : (letter : letters.Letter) → ServesItems letter names → AreSound is_of most (frame ls) (guarding
        inside
        targets ++ reading_item letter) (frame ls) (words (Number ∷ Refs names ∷ s))
    loading_sound letter e = guard_then is_of most (frame ls) (frame ls) (zip_itself (frame ls)) inside targets
        (reading_item letter) (Refs (types names) ∷ words s) (omega (arith, few)) (load_sound is_of most (frame ls)
        (frame ls) (zip_itself (frame ls)) (types names) letter e (words s) few)

    -- numbers
    loaded : (letter : letters.Letter) → ServesItems letter names → (op == jvm.aaload) ≡ false → stack_through
        (reading_item letter) (frame ls) stack ≡ Number ∷ Number ∷ words s → locals_through (reading_item letter)
        (frame ls) stack ≡ frame ls → Runs card_type is_of m max_stack (jop.ArrayLoad op) (guarding inside targets
        ++ reading_item letter) ls (Number ∷ Refs names ∷ s)
    loaded letter e other there stays = record {
      sound = loading_sound letter e;
      stack_below = zip_same _ _ (guard_then_stack is_of most (frame ls) (frame ls) (zip_itself (frame ls)) inside
          targets (reading_item letter) (Refs (types names) ∷ words s) ∙ there ∙ ap (λ t. words ((if t then refs
          (elements_by_name names []) else Number) ∷ s)) (sym other));
      locals_below = zip_same _ _ (guard_then_locals is_of most (frame ls) (frame ls) (zip_itself (frame ls)) inside
          targets (reading_item letter) (Refs (types names) ∷ words s) ∙ stays);
    }

    pub bytes_load : ServesItems letters.Byte names → (op == jvm.aaload) ≡ false → Runs card_type is_of m max_stack
        (jop.ArrayLoad op) (guarding inside targets ++ reading_item letters.Byte) ls (Number ∷ Refs names ∷ s)
    bytes_load e other = loaded letters.Byte e other refl refl

    pub shorts_load : ServesItems letters.Short names → (op == jvm.aaload) ≡ false → Runs card_type is_of m max_stack
        (jop.ArrayLoad op) (guarding inside targets ++ reading_item letters.Short) ls (Number ∷ Refs names ∷ s)
    shorts_load e other = loaded letters.Short e other refl refl

    pub ints_load : ServesItems letters.Int names → (op == jvm.aaload) ≡ false → Runs card_type is_of m max_stack
        (jop.ArrayLoad op) (guarding inside targets ++ reading_item letters.Int) ls (Number ∷ Refs names ∷ s)
    ints_load e other = loaded letters.Int e other refl refl

  -- references
  pub references_load : (inside : Bool) (targets : List ℕ) (ls : List Cell) (names : List (List ℕ)) (s : List Cell)
      → IsOn max_stack (jop.ArrayLoad jvm.aaload) ls (Number ∷ Refs names ∷ s) → ServesItems letters.Reference names
      → IsCellBelow (element_of (Refs (types names))) (card_cell card_type (element_by_name jvm.aaload (Refs names)))
      → Runs card_type is_of m max_stack (jop.ArrayLoad jvm.aaload) (guarding inside targets ++ reading_item
      letters.Reference) ls (Number ∷ Refs names ∷ s)
  references_load inside targets ls names s on e below = record {
    sound = loading_sound jvm.aaload inside targets ls names s on letters.Reference e;
    stack_below = subst (λ (xs : List Cell). AllZip IsCellBelow xs (words (element_by_name jvm.aaload (Refs names) ∷
        s)))
        (sym (guard_then_stack is_of most (frame ls) (frame ls) (zip_itself (frame ls)) inside targets (reading_item
        letters.Reference) (Refs (types names) ∷ words s))) (by (nat_le (length (elements_by_name names [])) most_names)
        below (λ f. on.usable refl 0 (ap Some f)));
    locals_below = zip_same _ _ (guard_then_locals is_of most (frame ls) (frame ls) (zip_itself (frame ls)) inside
        targets
        (reading_item letters.Reference) (Refs (types names) ∷ words s));
  }
    where
      by : (t : Bool) → IsCellBelow (element_of (Refs (types names))) (card_cell card_type (if t then Refs
          (elements_by_name names []) else Unusable)) → ((if t then Refs (elements_by_name names []) else Unusable)
          ≡ Unusable → ⊥) → AllZip IsCellBelow (element_of (Refs (types names)) ∷ words s) (words ((if t then Refs
          (elements_by_name names []) else Unusable) ∷ s))
      by true h usable = (h, zip_itself (words s))
      by false h usable = absurd (usable refl)

  -- stores
  module _ (op : ℕ) (inside : Bool) (targets : List ℕ) (ls : List Cell) (names : List (List ℕ)) (s : List Cell)
    where
      -- of a value of one word, from its own
      one_stored : (letter : letters.Letter) (v : Cell) → length (letter_needs letter) ≡ 1 → length (words s) + 8 ≤ most
          → has_wrong is_of (letter_needs letter ++ NumberWord ∷ OfArrays (arrays_of letter) ∷ []) (v ∷ Number ∷ Refs
          (types names) ∷ words s) ≡ false → IsSound is_of most (storing_item letter) (frame ls) (v ∷ Number ∷ Refs
          (types
          names) ∷ words s)
      one_stored letter v one few right =
          let long = length-append (letter_needs letter) (NumberWord ∷ OfArrays (arrays_of letter) ∷ []) in
          let three : length (letter_needs letter ++ NumberWord ∷ OfArrays (arrays_of letter) ∷ []) ≡ 3 = omega (
            arith,
            long,
            one,
          ) in
          sound_taking is_of most (letter_needs letter ++ NumberWord ∷ OfArrays (arrays_of letter) ∷ []) [] true []
          (frame
          ls) (v ∷ Number ∷ Refs (types names) ∷ words s) (omega (arith, three)) (omega (arith, few)) (subst (λ n.
          length
          (drop n (v ∷ Number ∷ Refs (types names) ∷ words s)) ≤ most) (sym three) (omega (arith, few))) right

      pub references_store : (others : List (List ℕ)) → IsOn max_stack (jop.ArrayStore op) ls (Refs others ∷ Number ∷
          Refs
          names ∷ s) → ServesItems letters.Reference names → Runs card_type is_of m max_stack (jop.ArrayStore op)
          (writing_item letters.Reference inside targets) ls (Refs others ∷ Number ∷ Refs names ∷ s)
      references_store others on e =
          let before = before_few card_type is_of m max_stack (jop.ArrayStore op) ls (Refs others ∷ Number ∷ Refs names
          ∷ s) on in
          record {
            sound = one_sound is_of most (frame ls) (frame ls) (zip_itself (frame ls)) (Refs (types others)) targets
                inside
                (storing_item letters.Reference ∷ []) (Refs (types names) ∷ words s) (omega (arith, before)) (
                  one_stored letters.Reference (Refs (types others)) refl (omega (arith, before)) (ap (λ v. not v ||
                      false)
                      e),
                  zip_itself (frame ls),
                  tt,
                );
            stack_below = zip_same _ _ (one_stack is_of most (frame ls) (frame ls) (zip_itself (frame ls)) (Refs (types
                others)) targets inside (storing_item letters.Reference ∷ []) (Refs (types names) ∷ words s));
            locals_below = zip_same _ _ (one_locals is_of most (frame ls) (frame ls) (zip_itself (frame ls)) (Refs
                (types
                others)) targets inside (storing_item letters.Reference ∷ []) (Refs (types names) ∷ words s));
          }

      pub ints_store : IsOn max_stack (jop.ArrayStore op) ls (Number ∷ Number ∷ Refs names ∷ s) → ServesItems
          letters.Int
          names → Runs card_type is_of m max_stack (jop.ArrayStore op) (writing_item letters.Int inside targets) ls
          (Number
          ∷ Number ∷ Refs names ∷ s)
      ints_store on e =
          let before = before_few card_type is_of m max_stack (jop.ArrayStore op) ls (Number ∷ Number ∷ Refs names ∷ s)
          on
          in
          record {
            sound = two_sound is_of most (frame ls) (frame ls) (zip_itself (frame ls)) targets inside (storing_item
                letters.Int ∷ []) (Refs (types names) ∷ words s) (omega (arith, before)) (
                  sound_taking is_of most (NumberWord ∷ NumberWord ∷ NumberWord ∷ OfArrays (arrays_of letters.Int) ∷ [])
                      []
                      true [] (frame ls) (Number ∷ Number ∷ Number ∷ Refs (types names) ∷ words s)
                      (omega arith) (omega (
                        arith,
                        before,
                      )) (omega (arith, before)) (ap (λ v. not v || false) e),
                  zip_itself (frame ls),
                  tt,
                );
            stack_below = zip_same _ _ (two_stack is_of most (frame ls) (frame ls) (zip_itself (frame ls)) targets
                inside
                (storing_item letters.Int ∷ []) (Refs (types names) ∷ words s));
            locals_below = zip_same _ _ (two_locals is_of most (frame ls) (frame ls) (zip_itself (frame ls)) targets
                inside
                (storing_item letters.Int ∷ []) (Refs (types names) ∷ words s));
          }

      -- of a value of two words that is cut to one
      cut_stored : (letter : letters.Letter) → length (letter_needs letter) ≡ 1 → IsOn max_stack (jop.ArrayStore op) ls
          (Number ∷ Number ∷ Refs names ∷ s) → has_wrong is_of (letter_needs letter ++ NumberWord ∷ OfArrays (arrays_of
          letter) ∷ []) (Number ∷ Number ∷ Refs (types names) ∷ words s) ≡ false → AreSound is_of most (frame ls)
          (calculating 2 1 ∷ (indexing 1 inside targets ++ storing_item letter ∷ [])) (frame ls) (words (Number ∷ Number
          ∷ Refs names ∷ s))
      cut_stored letter one on right =
          let before = before_few card_type is_of m max_stack (jop.ArrayStore op) ls (Number ∷ Number ∷ Refs names ∷ s)
          on
          in (
            narrow_sound is_of most (frame ls) (Number ∷ Number ∷ Refs (types names) ∷ words s) (omega (arith, before)),
            zip_itself (frame ls),
            one_sound is_of most (frame ls) (frame ls) (zip_itself (frame ls)) Number targets inside (storing_item
                letter
                ∷ []) (Refs (types names) ∷ words s) (omega (arith, before)) (
                  one_stored letter Number one (omega (arith, before)) right,
                  zip_itself (frame ls),
                  tt,
                ),
          )

      cut_runs : (letter : letters.Letter) → IsOn max_stack (jop.ArrayStore op) ls (Number ∷ Number ∷ Refs names ∷ s)
          → AreSound is_of most (frame ls) (calculating 2 1 ∷ (indexing 1 inside targets ++ storing_item letter ∷ []))
          (frame ls) (words (Number ∷ Number ∷ Refs names ∷ s)) → stack_through (storing_item letter ∷ []) (frame ls)
          (Number ∷ Number ∷ Refs (types names) ∷ words s) ≡ words s → locals_through (storing_item letter ∷ []) (frame
          ls)
          (Number ∷ Number ∷ Refs (types names) ∷ words s) ≡ frame ls → Runs card_type is_of m max_stack (jop.ArrayStore
          op) (calculating 2 1 ∷ (indexing 1 inside targets ++ storing_item letter ∷ [])) ls (Number ∷ Number ∷ Refs
          names
          ∷ s)
      cut_runs letter on sound stack stays = record {
        sound = sound;
        stack_below = zip_same _ _ (one_stack is_of most (frame ls) (frame ls) (zip_itself (frame ls)) Number targets
            inside
            (storing_item letter ∷ []) (Refs (types names) ∷ words s) ∙ stack);
        locals_below = zip_same _ _ (one_locals is_of most (frame ls) (frame ls) (zip_itself (frame ls)) Number targets
            inside (storing_item letter ∷ []) (Refs (types names) ∷ words s) ∙ stays);
      }

      pub bytes_store : IsOn max_stack (jop.ArrayStore op) ls (Number ∷ Number ∷ Refs names ∷ s) → ServesItems
          letters.Byte
          names → Runs card_type is_of m max_stack (jop.ArrayStore op) (writing_item letters.Byte inside targets) ls
          (Number ∷ Number ∷ Refs names ∷ s)
      bytes_store on e = cut_runs letters.Byte on (cut_stored letters.Byte refl on (ap (λ v. not v || false) e)) refl
          refl

      pub shorts_store : IsOn max_stack (jop.ArrayStore op) ls (Number ∷ Number ∷ Refs names ∷ s) → ServesItems
          letters.Short names → Runs card_type is_of m max_stack (jop.ArrayStore op) (writing_item letters.Short inside
          targets) ls (Number ∷ Number ∷ Refs names ∷ s)
      shorts_store on e = cut_runs letters.Short on (cut_stored letters.Short refl on (ap (λ v. not v || false) e)) refl
          refl
