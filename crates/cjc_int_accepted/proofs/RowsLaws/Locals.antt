-- Loads, stores and increases of locals in int mode: a local of the class file is two words.
use Rattle.std.proofs.Common.{◌≡◌, ℕ, zero, suc, ◌+◌, ◌<◌, refl, sym, ap, ◌∙◌, arith, Bool, true}
use Rattle.std.proofs.Common.{false}
use Rattle.std.proofs.Common.{List, [], ◌∷◌, length, slice_get, Option, Some}
use Rattle.std.specs.Prelude.{◌||◌, not, nat_le, ℤ}
use Rattle.std.proofs.lemmas.Bool.Decides.{nat_tests}
use Rattle.cjc_types.specs.Bytecode.declared.insn.JOp.TheVariants as jop
use Rattle.cjc_types.specs.Flow.{Body}
use Rattle.cjc_types.specs.Rules.{has_wrong as has_wrong_by_name, has_wrong_local as has_wrong_local_by_name, is_number}
use Rattle.cjc_types.specs.Rules.{is_reference}
use Rattle.cjc_types.specs.Steps.{operand}
use Rattle.cjc_types.specs.Types.{as_reference}
use Rattle.cjc_types.specs.World.Classes.{Class}
use Rattle.cjc_types.specs.declared.cell.Cell.{Cell}
use Rattle.cjc_types.specs.declared.cell.Cell.TheVariants.{Number, Refs, Unusable}
use Rattle.cjc_frames.specs.Acts.{Subtype, has_wrong_local, is_wrong_local, lacks_local}
use Rattle.cjc_frames.specs.declared.acts.Need.TheVariants.{NumberWord, ReferenceWord}
use Rattle.cjc_verify.specs.CardActs.Rows.{increasing, loading, storing}
use Rattle.cjc_verify.specs.CardSemantics.Bytecode.Effects as letters
use Rattle.cjc_accepted_proof.specs.Frames.{card_cell, types_named}
use Rattle.cjc_accepted_proof.proofs.RowsLaws.{zip_itself}
use Rattle.cjc_int_accepted.specs.Acts.{letter_of_local}
use Rattle.cjc_int_accepted.specs.Frames.{Room, frame_words, second_word, stack_words, word_of}
use Rattle.cjc_int_accepted.specs.Runs.{IsOn, Runs, most_words}
use Rattle.cjc_int_accepted.proofs.RowsLaws.Sound.{before_few, zip_same}
use Rattle.cjc_int_accepted.proofs.WordsLaws.{first_there, frame_long, local_set, local_set_first, operand_got}
use Rattle.cjc_int_accepted.proofs.WordsLaws.{second_there}

-- what is no number, or no reference, is not there as one
no_number : (x : Cell) → not (is_number x) ≡ false → x ≡ Number
no_number Number e = refl
no_number (Refs names) e = absurd cc
no_number Unusable e = absurd cc

-- a local of the right kind is there
number_there : (ls : List Cell) (k : ℕ) → operand ls k ≡ Number → k < length ls
number_there [] k e = absurd cc
number_there (x ∷ ls) zero e = omega arith
number_there (x ∷ ls) (suc k) e = let lt = number_there ls k e in omega (arith, lt)

reference_there : (ls : List Cell) (k : ℕ) (names : List (List ℕ)) → operand ls k ≡ Refs names → k < length ls
reference_there [] k names e = absurd cc
reference_there (x ∷ ls) zero names e = omega arith
reference_there (x ∷ ls) (suc k) names e = let lt = reference_there ls k names e in omega (arith, lt)

some_names : (x : Cell) → not (is_reference x) ≡ false → (names : List (List ℕ)) × (x ≡ Refs names)
some_names Number e = absurd cc
some_names (Refs names) e = (names, refl)
some_names Unusable e = absurd cc

module _ (card_type : List ℕ → Option (List ℕ)) (is_of : Subtype) (m : Room) (max_stack : ℕ) where
  abbrev words : List Cell → List Cell
  words s = stack_words card_type s

  abbrev frame : List Cell → List Cell
  frame ls = frame_words card_type m ls

  abbrev most : ℕ
  most = most_words max_stack

  module _ (k : ℕ) (ls : List Cell) (lt : k < length ls) where
    abbrev n : ℕ
    n = word_of m k

    -- both words are there
    here : nat_le (length (frame ls)) (word_of m k) ≡ false
    here = let long = frame_long card_type m ls in grind (arith, nat_tests, long, lt)

    beside : nat_le (length (frame ls)) (word_of m k + 1) ≡ false
    beside = let long = frame_long card_type m ls in grind (arith, nat_tests, long, lt)

    both_there : ((false || nat_le (length (frame ls)) (word_of m k)) || nat_le (length (frame ls)) (word_of m k + 1))
        ≡ false
    both_there = ap (λ v. (false || v) || nat_le (length (frame ls)) (word_of m k + 1)) here ∙ ap (λ v. (false || false)
        || v) beside

    -- a number is in both
    module _ (number : operand ls k ≡ Number) where
      first_right : is_wrong_local is_of NumberWord (slice_get (frame ls) (word_of m k)) ≡ false
      first_right = ap (is_wrong_local is_of NumberWord) (first_there card_type m ls k lt ∙ ap (λ x. Some (card_cell
          card_type x)) number)

      second_right : is_wrong_local is_of NumberWord (slice_get (frame ls) (word_of m k + 1)) ≡ false
      second_right = ap (is_wrong_local is_of NumberWord) (second_there card_type m ls k lt ∙ ap (λ x. Some (second_word
          x)) number)

      words_right : has_wrong_local is_of (let a = loading letters.Int (word_of m k) in a.reads) (frame ls) ≡ false
      words_right = ap (λ v. v || (is_wrong_local is_of NumberWord (slice_get (frame ls) (word_of m k + 1)) || false))
          first_right ∙ ap (λ v. false || (v || false)) second_right

      words_lie : lacks_local (loading letters.Int (word_of m k)) (frame ls) ≡ false
      words_lie = ap (λ v. (v || (nat_le (length (frame ls)) (word_of m k + 1) || false)) || false) here
          ∙ ap (λ v. (false || (v || false)) || false) beside

      -- iload
      pub number_loads : (s : List Cell) → IsOn max_stack (jop.Load false k) ls s → Runs card_type is_of m max_stack
          (jop.Load false k) (loading letters.Int (word_of m k) ∷ []) ls s
      number_loads s on =
          let before = before_few card_type is_of m max_stack (jop.Load false k) ls s on in
          record {
            sound = (
              record {
                enough = omega arith;
                before = omega (arith, before);
                behind = omega (arith, before);
                operands = refl;
                locals_right = words_right;
                there = words_lie;
                fits = refl;
                known = refl;
                named = refl;
              },
              zip_itself (frame ls),
              tt,
            );
            stack_below = zip_itself (Number ∷ Number ∷ words s);
            locals_below = zip_itself (frame ls);
          }

      -- iinc
      increase_lies : lacks_local (increasing letters.Int (word_of m k)) (frame ls) ≡ false
      increase_lies = ap (λ v. (v || (nat_le (length (frame ls)) (word_of m k + 1) || false)) || (v || (nat_le (length
          (frame ls)) (word_of m k + 1) || false))) here
          ∙ ap (λ v. (false || (v || false)) || (false || (v || false))) beside

      pub number_increases : (by : ℤ) (s : List Cell) → IsOn max_stack (jop.Inc k by) ls s → Runs card_type is_of m
          max_stack (jop.Inc k by) (increasing letters.Int (word_of m k) ∷ []) ls s
      number_increases by s on =
          let before = before_few card_type is_of m max_stack (jop.Inc k by) ls s on in
          record {
            sound = (
              record {
                enough = omega arith;
                before = omega (arith, before);
                behind = omega (arith, before);
                operands = refl;
                locals_right = words_right;
                there = increase_lies;
                fits = refl;
                known = refl;
                named = refl;
              },
              zip_itself (frame ls),
              tt,
            );
            stack_below = zip_itself (words s);
            locals_below = zip_same _ _ (local_set card_type m ls k Number lt);
          }

    -- aload
    module _ (names : List (List ℕ)) (reference : operand ls k ≡ Refs names) where
      got : slice_get (frame ls) (word_of m k) ≡ Some (Refs (types_named card_type names))
      got = first_there card_type m ls k lt ∙ ap (λ x. Some (card_cell card_type x)) reference

      pub reference_loads : (s : List Cell) → IsOn max_stack (jop.Load true k) ls s → Runs card_type is_of m max_stack
          (jop.Load true k) (loading letters.Reference (word_of m k) ∷ []) ls s
      reference_loads s on =
          let before = before_few card_type is_of m max_stack (jop.Load true k) ls s on in
          let value : as_reference (operand (frame ls) (word_of m k)) ≡ Refs (types_named card_type names) = ap
          as_reference (operand_got (frame ls) (word_of m k) (Refs (types_named card_type names)) got) in
          record {
            sound = (
              record {
                enough = omega arith;
                before = omega (arith, before);
                behind = omega (arith, before);
                operands = refl;
                locals_right = ap (λ o. is_wrong_local is_of ReferenceWord o || false) got;
                there = ap (λ v. (v || false) || false) here;
                fits = refl;
                known = refl;
                named = refl;
              },
              zip_itself (frame ls),
              tt,
            );
            stack_below = zip_same _ _ (ap (λ x. x ∷ words s) value ∙ ap (λ x. words (as_reference x ∷ s)) (sym
                reference));
            locals_below = zip_itself (frame ls);
          }

    -- istore
    pub number_stores : (s : List Cell) → IsOn max_stack (jop.Store false k) ls (Number ∷ s) → Runs card_type is_of m
        max_stack (jop.Store false k) (storing letters.Int (word_of m k) ∷ []) ls (Number ∷ s)
    number_stores s on =
        let before = before_few card_type is_of m max_stack (jop.Store false k) ls (Number ∷ s) on in
        record {
          sound = (
            record {
              enough = omega arith;
              before = omega (arith, before);
              behind = omega (arith, before);
              operands = refl;
              locals_right = refl;
              there = ap (λ v. false || (v || (nat_le (length (frame ls)) (word_of m k + 1) || false))) here
                  ∙ ap (λ v. false || (false || (v || false))) beside;
              fits = refl;
              known = refl;
              named = refl;
            },
            zip_itself (frame ls),
            tt,
          );
          stack_below = zip_itself (words s);
          locals_below = zip_same _ _ (local_set card_type m ls k Number lt);
        }

    -- astore
    pub reference_stores : (names : List (List ℕ)) (s : List Cell) → IsOn max_stack (jop.Store true k) ls (Refs names
        ∷ s) → Runs card_type is_of m max_stack (jop.Store true k) (storing letters.Reference (word_of m k) ∷ []) ls
        (Refs
        names ∷ s)
    reference_stores names s on =
        let before = before_few card_type is_of m max_stack (jop.Store true k) ls (Refs names ∷ s) on in
        record {
          sound = (
            record {
              enough = omega arith;
              before = omega (arith, before);
              behind = omega (arith, before);
              operands = refl;
              locals_right = refl;
              there = ap (λ v. false || (v || false)) here;
              fits = refl;
              known = refl;
              named = refl;
            },
            zip_itself (frame ls),
            tt,
          );
          stack_below = zip_itself (words s);
          locals_below = local_set_first card_type m ls k (Refs names) lt refl;
        }

  -- ---- of each

  pub load_runs : (refs : Bool) (k : ℕ) (ls s : List Cell) → IsOn max_stack (jop.Load refs k) ls s
      → has_wrong_local_by_name (jop.Load refs k) ls ≡ false → Runs card_type is_of m max_stack (jop.Load refs k)
      (loading
      (letter_of_local refs) (word_of m k) ∷ []) ls s
  load_runs false k ls s on e =
      let number = no_number (operand ls k) e in
      number_loads k ls (number_there ls k number) number s on
  load_runs true k ls s on e =
      let r = some_names (operand ls k) e in
      reference_loads k ls (reference_there ls k r.0 r.1) r.0 r.1 s on

  pub increase_runs : (k : ℕ) (by : ℤ) (ls s : List Cell) → IsOn max_stack (jop.Inc k by) ls s → has_wrong_local_by_name
      (jop.Inc k by) ls ≡ false → Runs card_type is_of m max_stack (jop.Inc k by) (increasing letters.Int (word_of m k)
      ∷ []) ls s
  increase_runs k by ls s on e =
      let number = no_number (operand ls k) e in
      number_increases k ls (number_there ls k number) number by s on

  pub store_runs : (w : List Class) (b : Body) (refs : Bool) (k : ℕ) (ls s : List Cell) → k < length ls → IsOn max_stack
      (jop.Store refs k) ls s → has_wrong_by_name w b (jop.Store refs k) 1 0 s ≡ false → Runs card_type is_of m
      max_stack
      (jop.Store refs k) (storing (letter_of_local refs) (word_of m k) ∷ []) ls s
  store_runs w b refs k ls [] lt on e = let enough = on.enough in absurd (omega (arith, enough))
  store_runs w b false k ls (Number ∷ s) lt on e = number_stores k ls lt s on
  store_runs w b false k ls (Refs names ∷ s) lt on e = absurd cc
  store_runs w b false k ls (Unusable ∷ s) lt on e = absurd cc
  store_runs w b true k ls (Number ∷ s) lt on e = absurd cc
  store_runs w b true k ls (Refs names ∷ s) lt on e = reference_stores k ls lt names s on
  store_runs w b true k ls (Unusable ∷ s) lt on e = absurd cc
