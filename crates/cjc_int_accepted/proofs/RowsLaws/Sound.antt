-- Single instructions of the card from the words of a frame, and rows of one or two.
use Rattle.std.proofs.Common.{◌≡◌, ℕ, zero, suc, ◌+◌, ◌≤◌, refl, sym, ap, subst, ◌∙◌, arith, Bool, true}
use Rattle.std.proofs.Common.{false}
use Rattle.std.proofs.Common.{List, [], ◌∷◌, ◌++◌, length, map, drop, Option}
use Rattle.std.specs.List.{AllZip}
use Rattle.cjc_types.specs.Bytecode.declared.insn.JOp.{JOp}
use Rattle.cjc_types.specs.Cells.{IsCellBelow}
use Rattle.cjc_types.specs.Steps.{locals_after, stack_behind as behind_by_name}
use Rattle.cjc_types.specs.declared.cell.Cell.{Cell}
use Rattle.cjc_types.specs.declared.cell.Cell.TheVariants.{Number}
use Rattle.cjc_types.specs.declared.state.Stack.TheVariants.{Cells}
use Rattle.cjc_frames.specs.Acts.{Subtype, given, has_wrong}
use Rattle.cjc_frames.specs.declared.acts.Given.{Given}
use Rattle.cjc_frames.specs.declared.acts.Given.TheVariants.{ANumber}
use Rattle.cjc_frames.specs.declared.acts.Need.{Need}
use Rattle.cjc_verify.specs.CardActs.Rows.{any_words, calculating, number_words, pushing}
use Rattle.cjc_accepted_proof.proofs.RowsLaws.{zip_itself, zip_long}
use Rattle.cjc_int_accepted.specs.Acts.{taking}
use Rattle.cjc_int_accepted.specs.Frames.{Room, frame_words, stack_words}
use Rattle.cjc_int_accepted.specs.Runs.{IsOn, IsSound, Runs, most_words}
use Rattle.cjc_int_accepted.proofs.WordsLaws.{words_few}

-- what is the same is below itself
pub zip_same : (xs ys : List Cell) → xs ≡ ys → AllZip IsCellBelow xs ys
zip_same xs ys e = subst (λ (zs : List Cell). AllZip IsCellBelow xs zs) e (zip_itself xs)

-- words of any kind are never wrong
pub any_right : (is_of : Subtype) (n : ℕ) (s : List Cell) → has_wrong is_of (any_words n) s ≡ false
any_right is_of zero s = refl
any_right is_of (suc n) [] = refl
any_right is_of (suc n) (x ∷ s) = any_right is_of n s

module _ (is_of : Subtype) (most : ℕ) where
  pub sound_taking : (needs : List Need) (words : List Given) (falls : Bool) (targets : List ℕ) (ls s : List Cell)
      → length needs ≤ length s → length s ≤ most → length (map (given ls s) words ++ drop (length needs) s) ≤ most
      → has_wrong is_of needs s ≡ false → IsSound is_of most (taking needs words falls targets) ls s
  sound_taking needs words falls targets ls s enough before behind right = record {
    enough = enough;
    before = before;
    behind = behind;
    operands = right;
    locals_right = refl;
    there = refl;
    fits = refl;
    known = refl;
    named = refl;
  }

  -- i2s and s2i
  pub narrow_sound : (ls s : List Cell) → length s + 2 ≤ most → IsSound is_of most (calculating 2 1) ls (Number ∷ Number
      ∷ s)
  narrow_sound ls s few = sound_taking (number_words 2) (ANumber ∷ []) true [] ls (Number ∷ Number ∷ s) (omega arith)
      (omega (arith, few)) (omega (arith, few)) refl

  pub widen_sound : (ls s : List Cell) → length s + 2 ≤ most → IsSound is_of most (calculating 1 2) ls (Number ∷ s)
  widen_sound ls s few = sound_taking (number_words 1) (ANumber ∷ ANumber ∷ []) true [] ls (Number ∷ s) (omega arith)
      (omega (arith, few)) (omega (arith, few)) refl

  -- an int that is put
  pub push_sound : (ls s : List Cell) → length s + 2 ≤ most → IsSound is_of most (pushing (ANumber ∷ ANumber ∷ [])) ls s
  push_sound ls s few = sound_taking [] (ANumber ∷ ANumber ∷ []) true [] ls s (omega arith) (omega (arith, few))
      (omega (
        arith,
        few,
      )) refl

module _ (card_type : List ℕ → Option (List ℕ)) (is_of : Subtype) (m : Room) (max_stack : ℕ) where
  abbrev words : List Cell → List Cell
  words s = stack_words card_type s

  abbrev frame : List Cell → List Cell
  frame ls = frame_words card_type m ls

  abbrev most : ℕ
  most = most_words max_stack

  -- the words before and behind an instruction are few
  pub before_few : (op : JOp) (ls s : List Cell) → IsOn max_stack op ls s → length (words s) + 4 ≤ most
  before_few op ls s on =
      let few = words_few card_type s in
      let le = on.before in
      omega (arith, few, le)

  pub behind_few : (op : JOp) (ls s : List Cell) → IsOn max_stack op ls s → length (words (behind_by_name op ls s)) + 4
      ≤ most
  behind_few op ls s on =
      let few = words_few card_type (behind_by_name op ls s) in
      let le = on.behind in
      omega (arith, few, le)

  -- nothing is written
  pub row_of_none : (op : JOp) (ls s : List Cell) → behind_by_name op ls s ≡ s → locals_after op ls (Cells s) ≡ ls
      → Runs card_type is_of m max_stack op [] ls s
  row_of_none op ls s same stays = record {
    sound = tt;
    stack_below = zip_same (words s) (words (behind_by_name op ls s)) (ap words (sym same));
    locals_below = zip_same (frame ls) (frame (locals_after op ls (Cells s))) (ap frame (sym stays));
  }

  -- one instruction is written
  pub row_of_one : (op : JOp) (needs : List Need) (puts : List Given) (falls : Bool) (targets : List ℕ) (ls s : List
      Cell)
      → IsOn max_stack op ls s → length needs ≤ length (words s) → has_wrong is_of needs (words s) ≡ false
      → AllZip IsCellBelow (map (given (frame ls) (words s)) puts ++ drop (length needs) (words s)) (words
      (behind_by_name op ls s)) → locals_after op ls (Cells s) ≡ ls → Runs card_type is_of m max_stack op (taking needs
      puts falls targets ∷ []) ls s
  row_of_one op needs puts falls targets ls s on enough right below stays =
      let before = before_few op ls s on in
      let behind = behind_few op ls s on in
      let long = zip_long (map (given (frame ls) (words s)) puts ++ drop (length needs) (words s)) (words
      (behind_by_name op ls s)) below in
      record {
        sound = (
          sound_taking is_of most needs puts falls targets (frame ls) (words s) enough (omega (arith, before)) (omega (
            arith,
            behind,
            long,
          )) right,
          zip_itself (frame ls),
          tt,
        );
        stack_below = below;
        locals_below = zip_same (frame ls) (frame (locals_after op ls (Cells s))) (ap frame (sym stays));
      }

  -- one that gives a number of one word, which is widened
  pub row_widened : (op : JOp) (needs : List Need) (put : Given) (ls s rest : List Cell) → IsOn max_stack op ls s
      → length needs ≤ length (words s) → has_wrong is_of needs (words s) ≡ false → given (frame ls) (words s) put
      ≡ Number → drop (length needs) (words s) ≡ words rest → behind_by_name op ls s ≡ Number ∷ rest
      → locals_after op ls (Cells s) ≡ ls → Runs card_type is_of m max_stack op (taking needs (put ∷ []) true []
      ∷ calculating 1 2 ∷ []) ls s
  row_widened op needs put ls s rest on enough right number left is stays =
      let before = before_few op ls s on in
      let behind = behind_few op ls s on in
      let longer : length (words (behind_by_name op ls s)) ≡ suc (suc (length (words rest))) = ap (λ xs. length (words
      xs)) is in
      let there : map (given (frame ls) (words s)) (put ∷ []) ++ drop (length needs) (words s) ≡ Number ∷ words rest =
      ap
      (λ x. x ∷ drop (length needs) (words s)) number ∙ ap (λ xs. Number ∷ xs) left in
      let long = ap length there in
      let next : IsSound is_of most (calculating 1 2) (frame ls) (Number ∷ words rest) = widen_sound is_of most (frame
      ls) (words rest) (omega (arith, behind, longer)) in
      record {
        sound = (
          sound_taking is_of most needs (put ∷ []) true [] (frame ls) (words s) enough (omega (arith, before)) (omega (
            arith,
            behind,
            longer,
            long,
          )) right,
          zip_itself (frame ls),
          (
            subst (λ (xs : List Cell). IsSound is_of most (calculating 1 2) (frame ls) xs) (sym there) next,
            zip_itself (frame ls),
            tt,
          ),
        );
        stack_below = zip_same _ _ (ap (λ (xs : List Cell). Number ∷ Number ∷ drop 1 xs) there ∙ ap words (sym is));
        locals_below = zip_same (frame ls) (frame (locals_after op ls (Cells s))) (ap frame (sym stays));
      }
