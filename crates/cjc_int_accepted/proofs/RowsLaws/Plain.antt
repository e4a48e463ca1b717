-- Constants, arithmetic, jumps and switches in int mode: numbers of two words.
use Rattle.std.proofs.Common.{◌≡◌, ℕ, ◌+◌, refl, sym, ap, subst, ◌∙◌, arith, Bool, true, false}
use Rattle.std.proofs.Common.{List, [], ◌∷◌, drop, Option}
use Rattle.std.specs.Prelude.{◌==◌, ◌&&◌, ◌||◌, not, nat_lt, if◌then◌else◌, ℤ}
use Rattle.cjc_types.specs.Bytecode.Jvm as jvm
use Rattle.cjc_types.specs.Bytecode.declared.insn.JCase.{JCase}
use Rattle.cjc_types.specs.Bytecode.declared.insn.JOp.TheVariants as jop
use Rattle.cjc_types.specs.Flow.{Body}
use Rattle.cjc_types.specs.Rules.{has_wrong as has_wrong_by_name, is_number, is_reference, tests_references}
use Rattle.cjc_types.specs.Steps.{compares, stack_behind as behind_by_name, takes}
use Rattle.cjc_types.specs.World.Classes.{Class}
use Rattle.cjc_types.specs.declared.cell.Cell.{Cell}
use Rattle.cjc_types.specs.declared.cell.Cell.TheVariants.{Number, Refs, Unusable}
use Rattle.cjc_frames.specs.Acts.{Subtype}
use Rattle.cjc_frames.specs.declared.acts.Given.TheVariants.{ANull, ANumber}
use Rattle.cjc_frames.specs.declared.acts.Need.TheVariants.{NumberWord, ReferenceWord}
use Rattle.cjc_verify.specs.CardActs.Rows.{calculating, number_words, pushing}
use Rattle.cjc_accepted_proof.proofs.RowsLaws.{zip_itself}
use Rattle.cjc_int_accepted.specs.Frames.{Room, frame_words, stack_words}
use Rattle.cjc_int_accepted.specs.Runs.{IsOn, Runs, most_words}
use Rattle.cjc_int_accepted.proofs.RowsLaws.Sound.{before_few, push_sound, row_of_none}
use Rattle.cjc_int_accepted.proofs.RowsLaws.Sound.{row_of_one, row_widened, sound_taking, zip_same}
use Rattle.cjc_int_accepted.specs.Acts.{taking}

module _ (card_type : List ℕ → Option (List ℕ)) (is_of : Subtype) (m : Room) (max_stack : ℕ) where
  abbrev words : List Cell → List Cell
  words s = stack_words card_type s

  abbrev frame : List Cell → List Cell
  frame ls = frame_words card_type m ls

  abbrev most : ℕ
  most = most_words max_stack

  -- ---- what takes nothing

  pub nop_runs : (ls s : List Cell) → Runs card_type is_of m max_stack jop.Nop [] ls s
  nop_runs ls s = row_of_none card_type is_of m max_stack jop.Nop ls s refl refl

  pub null_runs : (ls s : List Cell) → IsOn max_stack jop.Null ls s → Runs card_type is_of m max_stack jop.Null (pushing
      (ANull ∷ []) ∷ []) ls s
  null_runs ls s on = row_of_one card_type is_of m max_stack jop.Null [] (ANull ∷ []) true [] ls s on (omega arith) refl
      (zip_itself (Refs [] ∷ words s)) refl

  pub number_runs : (z : ℤ) (ls s : List Cell) → IsOn max_stack (jop.Number z) ls s → Runs card_type is_of m max_stack
      (jop.Number z) (pushing (ANumber ∷ ANumber ∷ []) ∷ []) ls s
  number_runs z ls s on = row_of_one card_type is_of m max_stack (jop.Number z) [] (ANumber ∷ ANumber ∷ []) true [] ls s
      on (omega arith) refl (zip_itself (Number ∷ Number ∷ words s)) refl

  pub goto_runs : (target : ℕ) (targets : List ℕ) (ls s : List Cell) → IsOn max_stack (jop.Goto target) ls s
      → Runs card_type is_of m max_stack (jop.Goto target) (taking [] [] false targets ∷ []) ls s
  goto_runs target targets ls s on = row_of_one card_type is_of m max_stack (jop.Goto target) [] [] false targets ls s
      on
      (omega arith) refl (zip_itself (words s)) refl

  module _ (w : List Class) (b : Body) where
    -- ---- arithmetic

    pub negation_runs : (ls s : List Cell) → IsOn max_stack (jop.Arith jvm.ineg) ls s → has_wrong_by_name w b (jop.Arith
        jvm.ineg) 1 0 s ≡ false → Runs card_type is_of m max_stack (jop.Arith jvm.ineg) (calculating 2 2 ∷ []) ls s
    negation_runs ls [] on e = let enough = on.enough in absurd (omega (arith, enough))
    negation_runs ls (Refs names ∷ s) on e = absurd cc
    negation_runs ls (Unusable ∷ s) on e = absurd cc
    negation_runs ls (Number ∷ s) on e = row_of_one card_type is_of m max_stack (jop.Arith jvm.ineg) (number_words 2)
        (ANumber ∷ ANumber ∷ []) true [] ls (Number ∷ s) on (omega arith) refl (zip_itself (Number ∷ Number ∷ words s))
        refl

    pub arithmetic_runs : (op : ℕ) → (op == jvm.ineg) ≡ false → (ls s : List Cell) → IsOn max_stack (jop.Arith op) ls s
        → has_wrong_by_name w b (jop.Arith op) 2 0 s ≡ false → Runs card_type is_of m max_stack (jop.Arith op)
        (calculating 4 2 ∷ []) ls s
    arithmetic_runs op two ls [] on e = let enough = on.enough in let many : takes (jop.Arith op) ≡ 2 = ap (λ t. if t
        then 1 else 2) two in absurd (omega (arith, enough, many))
    arithmetic_runs op two ls (x ∷ []) on e = let enough = on.enough in let many : takes (jop.Arith op) ≡ 2 = ap (λ t.
        if t then 1 else 2) two in absurd (omega (arith, enough, many))
    arithmetic_runs op two ls (Refs names ∷ y ∷ s) on e = absurd cc
    arithmetic_runs op two ls (Unusable ∷ y ∷ s) on e = absurd cc
    arithmetic_runs op two ls (Number ∷ Refs names ∷ s) on e = absurd cc
    arithmetic_runs op two ls (Number ∷ Unusable ∷ s) on e = absurd cc
    arithmetic_runs op two ls (Number ∷ Number ∷ s) on e = row_of_one card_type is_of m max_stack (jop.Arith op)
        (number_words 4) (ANumber ∷ ANumber ∷ []) true [] ls (Number ∷ Number ∷ s) on (omega arith) refl (zip_same
        (Number ∷ Number ∷ words s) (words (behind_by_name (jop.Arith op) ls (Number ∷ Number ∷ s))) (ap (λ t. words
        (Number ∷ drop (if t then 1 else 2) (Number ∷ Number ∷ s))) (sym two))) refl

    -- i2b and i2s
    pub narrowing_runs : (op : ℕ) (ls s : List Cell) → IsOn max_stack (jop.Narrow op) ls s → has_wrong_by_name w b
        (jop.Narrow op) 1 0 s ≡ false → Runs card_type is_of m max_stack (jop.Narrow op) (calculating 2 1 ∷ calculating
        1
        2 ∷ []) ls s
    narrowing_runs op ls [] on e = let enough = on.enough in absurd (omega (arith, enough))
    narrowing_runs op ls (Refs names ∷ s) on e = absurd cc
    narrowing_runs op ls (Unusable ∷ s) on e = absurd cc
    narrowing_runs op ls (Number ∷ s) on e = row_widened card_type is_of m max_stack (jop.Narrow op) (number_words 2)
        ANumber ls (Number ∷ s) s on (omega arith) refl refl refl refl refl

    -- ---- jumps and switches

    -- the operands of a jump are of the kind that it tests
    tested_right : (op target count k : ℕ) (t : Bool) → tests_references op ≡ t → (x : Cell) (s : List Cell)
        → has_wrong_by_name w b (jop.If op target) count k (x ∷ s) ≡ false → nat_lt k count ≡ true → (if t
        then is_reference x else is_number x) ≡ true
    tested_right op target count k t is x s e lt = by (nat_lt k count) lt (tests_references op) is (has_wrong_by_name w
        b
        (jop.If op target) count (k + 1) s) e
      where
        by : (n : Bool) → n ≡ true → (u : Bool) → u ≡ t → (r : Bool) → ((n && not (if u then is_reference x
            else is_number x)) || r) ≡ false → (if t then is_reference x else is_number x) ≡ true
        by n f u g r h = at (if t then is_reference x else is_number x) r (subst (λ v. ((true && not (if v
            then is_reference x else is_number x)) || r) ≡ false) g (subst (λ v. ((v && not (if u then is_reference x
            else is_number x)) || r) ≡ false) f h))
          where
            at : (p q : Bool) → ((true && not p) || q) ≡ false → p ≡ true
            at true q i = refl
            at false q i = absurd cc

    rest_right : (op target count k : ℕ) (x : Cell) (s : List Cell) → has_wrong_by_name w b (jop.If op target) count k
        (x ∷ s) ≡ false → has_wrong_by_name w b (jop.If op target) count (k + 1) s ≡ false
    rest_right op target count k x s e = by (nat_lt k count && not (if tests_references op then is_reference x
        else is_number x)) (has_wrong_by_name w b (jop.If op target) count (k + 1) s) e
      where
        by : (p q : Bool) → (p || q) ≡ false → q ≡ false
        by true q f = absurd cc
        by false q f = f

    -- the stack behind a jump
    one_left : (op target : ℕ) → compares op ≡ false → (ls : List Cell) (x : Cell) (s : List Cell) → words s ≡ words
        (behind_by_name (jop.If op target) ls (x ∷ s))
    one_left op target one ls x s = ap (λ t. words (drop (if t then 2 else 1) (x ∷ s))) (sym one)

    two_left : (op target : ℕ) → compares op ≡ true → (ls : List Cell) (x y : Cell) (s : List Cell) → words s ≡ words
        (behind_by_name (jop.If op target) ls (x ∷ y ∷ s))
    two_left op target two ls x y s = ap (λ t. words (drop (if t then 2 else 1) (x ∷ y ∷ s))) (sym two)

    -- of a reference: ifnull, ifnonnull
    pub reference_runs : (op target : ℕ) (targets : List ℕ) → compares op ≡ false → tests_references op ≡ true
        → (ls s : List Cell) → IsOn max_stack (jop.If op target) ls s → has_wrong_by_name w b (jop.If op target) 1 0 s
        ≡ false → Runs card_type is_of m max_stack (jop.If op target) (taking (ReferenceWord ∷ []) [] true targets ∷ [])
        ls s
    reference_runs op target targets one refs ls [] on e = let enough = on.enough in let many : takes (jop.If op target)
        ≡ 1 = ap (λ t. if t then 2 else 1) one in absurd (omega (arith, enough, many))
    reference_runs op target targets one refs ls (Number ∷ s) on e = let r = tested_right op target 1 0 true refs Number
        s
        e refl in absurd cc
    reference_runs op target targets one refs ls (Unusable ∷ s) on e = let r = tested_right op target 1 0 true refs
        Unusable s e refl in absurd cc
    reference_runs op target targets one refs ls (Refs names ∷ s) on e = row_of_one card_type is_of m max_stack (jop.If
        op
        target) (ReferenceWord ∷ []) [] true targets ls (Refs names ∷ s) on (omega arith) refl (zip_same (words s)
        (words
        (behind_by_name (jop.If op target) ls (Refs names ∷ s))) (one_left op target one ls (Refs names) s)) refl

    -- of two: if_acmpeq, if_acmpne
    pub references_run : (op target : ℕ) (targets : List ℕ) → compares op ≡ true → tests_references op ≡ true
        → (ls s : List Cell) → IsOn max_stack (jop.If op target) ls s → has_wrong_by_name w b (jop.If op target) 2 0 s
        ≡ false → Runs card_type is_of m max_stack (jop.If op target) (taking (ReferenceWord ∷ ReferenceWord ∷ []) []
        true targets ∷ []) ls s
    references_run op target targets two refs ls [] on e = let enough = on.enough in let many : takes (jop.If op target)
        ≡ 2 = ap (λ t. if t then 2 else 1) two in absurd (omega (arith, enough, many))
    references_run op target targets two refs ls (x ∷ []) on e = let enough = on.enough in let many : takes (jop.If op
        target) ≡ 2 = ap (λ t. if t then 2 else 1) two in absurd (omega (arith, enough, many))
    references_run op target targets two refs ls (Number ∷ y ∷ s) on e = let r = tested_right op target 2 0 true refs
        Number (y ∷ s) e refl in absurd cc
    references_run op target targets two refs ls (Unusable ∷ y ∷ s) on e = let r = tested_right op target 2 0 true refs
        Unusable (y ∷ s) e refl in absurd cc
    references_run op target targets two refs ls (Refs names ∷ y ∷ s) on e = by y refl (tested_right op target 2 1 true
        refs y s (rest_right op target 2 0 (Refs names) (y ∷ s) e) refl)
      where
        by : (z : Cell) → y ≡ z → is_reference y ≡ true → Runs card_type is_of m max_stack (jop.If op target) (taking
            (ReferenceWord ∷ ReferenceWord ∷ []) [] true targets ∷ []) ls (Refs names ∷ y ∷ s)
        by Number is r = let no : false ≡ true = ap is_reference (sym is) ∙ r in absurd cc
        by Unusable is r = let no : false ≡ true = ap is_reference (sym is) ∙ r in absurd cc
        by (Refs others) is r = subst (λ (z : Cell). IsOn max_stack (jop.If op target) ls (Refs names ∷ z ∷ s) → Runs
            card_type is_of m max_stack (jop.If op target) (taking (ReferenceWord ∷ ReferenceWord ∷ []) [] true targets
            ∷ []) ls (Refs names ∷ z ∷ s)) (sym is) (λ o. row_of_one card_type is_of m max_stack (jop.If op target)
            (ReferenceWord ∷ ReferenceWord ∷ []) [] true targets ls (Refs names ∷ Refs others ∷ s) o (omega arith) refl
            (zip_same (words s) (words (behind_by_name (jop.If op target) ls (Refs names ∷ Refs others ∷ s))) (two_left
            op target two ls (Refs names) (Refs others) s)) refl) on

    -- of a number: ifeq to ifle, by iconst_0 and icmp
    pub zero_runs : (op target : ℕ) (targets : List ℕ) → compares op ≡ false → tests_references op ≡ false
        → (ls s : List Cell) → IsOn max_stack (jop.If op target) ls s → has_wrong_by_name w b (jop.If op target) 1 0 s
        ≡ false → Runs card_type is_of m max_stack (jop.If op target) (pushing (ANumber ∷ ANumber ∷ []) ∷ calculating 4
        1
        ∷ taking (NumberWord ∷ []) [] true targets ∷ []) ls s
    zero_runs op target targets one refs ls [] on e = let enough = on.enough in let many : takes (jop.If op target) ≡ 1
        =
        ap (λ t. if t then 2 else 1) one in absurd (omega (arith, enough, many))
    zero_runs op target targets one refs ls (Refs names ∷ s) on e = let r = tested_right op target 1 0 false refs (Refs
        names) s e refl in absurd cc
    zero_runs op target targets one refs ls (Unusable ∷ s) on e = let r = tested_right op target 1 0 false refs Unusable
        s
        e refl in absurd cc
    zero_runs op target targets one refs ls (Number ∷ s) on e =
        let few = before_few card_type is_of m max_stack (jop.If op target) ls (Number ∷ s) on in
        record {
          sound = (
            push_sound is_of most (frame ls) (Number ∷ Number ∷ words s) (omega (arith, few)),
            zip_itself (frame ls),
            (
              sound_taking is_of most (number_words 4) (ANumber ∷ []) true [] (frame ls) (Number ∷ Number ∷ Number
                  ∷ Number ∷ words s) (omega arith) (omega (arith, few)) (omega (arith, few)) refl,
              zip_itself (frame ls),
              (
                sound_taking is_of most (NumberWord ∷ []) [] true targets (frame ls) (Number ∷ words s) (omega arith)
                    (omega (arith, few)) (omega (arith, few)) refl,
                zip_itself (frame ls),
                tt,
              ),
            ),
          );
          stack_below = zip_same (words s) (words (behind_by_name (jop.If op target) ls (Number ∷ s))) (one_left op
              target
              one ls Number s);
          locals_below = zip_itself (frame ls);
        }

    -- of two: if_icmpeq to if_icmple
    pub compare_runs : (op target : ℕ) (targets : List ℕ) → compares op ≡ true → tests_references op ≡ false
        → (ls s : List Cell) → IsOn max_stack (jop.If op target) ls s → has_wrong_by_name w b (jop.If op target) 2 0 s
        ≡ false → Runs card_type is_of m max_stack (jop.If op target) (calculating 4 1 ∷ taking (NumberWord ∷ []) []
        true
        targets ∷ []) ls s
    compare_runs op target targets two refs ls [] on e = let enough = on.enough in let many : takes (jop.If op target)
        ≡ 2 = ap (λ t. if t then 2 else 1) two in absurd (omega (arith, enough, many))
    compare_runs op target targets two refs ls (x ∷ []) on e = let enough = on.enough in let many : takes (jop.If op
        target) ≡ 2 = ap (λ t. if t then 2 else 1) two in absurd (omega (arith, enough, many))
    compare_runs op target targets two refs ls (Refs names ∷ y ∷ s) on e = let r = tested_right op target 2 0 false refs
        (Refs names) (y ∷ s) e refl in absurd cc
    compare_runs op target targets two refs ls (Unusable ∷ y ∷ s) on e = let r = tested_right op target 2 0 false refs
        Unusable (y ∷ s) e refl in absurd cc
    compare_runs op target targets two refs ls (Number ∷ Refs names ∷ s) on e = let r = tested_right op target 2 1 false
        refs (Refs names) s (rest_right op target 2 0 Number (Refs names ∷ s) e) refl in absurd cc
    compare_runs op target targets two refs ls (Number ∷ Unusable ∷ s) on e = let r = tested_right op target 2 1 false
        refs Unusable s (rest_right op target 2 0 Number (Unusable ∷ s) e) refl in absurd cc
    compare_runs op target targets two refs ls (Number ∷ Number ∷ s) on e =
        let few = before_few card_type is_of m max_stack (jop.If op target) ls (Number ∷ Number ∷ s) on in
        record {
          sound = (
            sound_taking is_of most (number_words 4) (ANumber ∷ []) true [] (frame ls) (Number ∷ Number ∷ Number
                ∷ Number ∷ words s) (omega arith) (omega (arith, few)) (omega (arith, few)) refl,
            zip_itself (frame ls),
            (
              sound_taking is_of most (NumberWord ∷ []) [] true targets (frame ls) (Number ∷ words s) (omega arith)
                  (omega (arith, few)) (omega (arith, few)) refl,
              zip_itself (frame ls),
              tt,
            ),
          );
          stack_below = zip_same (words s) (words (behind_by_name (jop.If op target) ls (Number ∷ Number ∷ s)))
              (two_left
              op target two ls Number Number s);
          locals_below = zip_itself (frame ls);
        }

    -- switches
    pub table_runs : (other : ℕ) (low : ℤ) (cases targets : List ℕ) (ls s : List Cell) → IsOn max_stack (jop.TableSwitch
        other low cases) ls s → has_wrong_by_name w b (jop.TableSwitch other low cases) 1 0 s ≡ false
        → Runs card_type is_of m max_stack (jop.TableSwitch other low cases) (taking (number_words 2) [] false targets
        ∷ []) ls s
    table_runs other low cases targets ls [] on e = let enough = on.enough in absurd (omega (arith, enough))
    table_runs other low cases targets ls (Refs names ∷ s) on e = absurd cc
    table_runs other low cases targets ls (Unusable ∷ s) on e = absurd cc
    table_runs other low cases targets ls (Number ∷ s) on e = row_of_one card_type is_of m max_stack (jop.TableSwitch
        other low cases) (number_words 2) [] false targets ls (Number ∷ s) on (omega arith) refl (zip_itself (words s))
        refl

    pub pairs_run : (other : ℕ) (cases : List JCase) (targets : List ℕ) (ls s : List Cell) → IsOn max_stack
        (jop.LookupSwitch other cases) ls s → has_wrong_by_name w b (jop.LookupSwitch other cases) 1 0 s ≡ false
        → Runs card_type is_of m max_stack (jop.LookupSwitch other cases) (taking (number_words 2) [] false targets
        ∷ []) ls s
    pairs_run other cases targets ls [] on e = let enough = on.enough in absurd (omega (arith, enough))
    pairs_run other cases targets ls (Refs names ∷ s) on e = absurd cc
    pairs_run other cases targets ls (Unusable ∷ s) on e = absurd cc
    pairs_run other cases targets ls (Number ∷ s) on e = row_of_one card_type is_of m max_stack (jop.LookupSwitch other
        cases) (number_words 2) [] false targets ls (Number ∷ s) on (omega arith) refl (zip_itself (words s)) refl
