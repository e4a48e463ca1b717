-- Instructions that name nothing: words that are put, the stack's instructions, numbers, jumps and switches.
use Rattle.std.proofs.Common.{◌≡◌, ℕ, zero, suc, ◌+◌, ◌<◌, ◌≤◌, refl, sym, ap, subst, ◌∙◌, arith, Bool, true, false}
use Rattle.std.proofs.Common.{List, [], ◌∷◌, ◌++◌, length, map, slice_get, slice_set, Option, Some}
use Rattle.std.specs.Prelude.{◌||◌, ◌&&◌, ◌==◌, not, if◌then◌else◌, ℤ}
use Rattle.std.specs.List.{AllZip}
use Rattle.std.proofs.lemmas.List.{length-replicate}
use Rattle.cjc_types.proofs.BytesGets.{map_set}
use Rattle.cjc_types.specs.Bytecode.Jvm as jvm
use Rattle.cjc_types.specs.Bytecode.declared.insn.JCase.{JCase}
use Rattle.cjc_types.specs.Bytecode.declared.insn.JOp.{JOp}
use Rattle.cjc_types.specs.Bytecode.declared.insn.JOp.TheVariants as jop
use Rattle.cjc_types.specs.Cells.{IsCellBelow}
use Rattle.cjc_types.specs.Flow.{Body}
use Rattle.cjc_types.specs.Rules.{accepts, has_wrong as has_wrong_by_name, has_wrong_local as has_wrong_local_by_name}
use Rattle.cjc_types.specs.Rules.{is_number, is_reference, tests_references}
use Rattle.cjc_types.specs.Steps.{compares, gives, locals_after, operand, shuffled, stack_takes, takes}
use Rattle.cjc_types.specs.Types.{as_reference}
use Rattle.cjc_types.specs.declared.cell.Cell.{Cell}
use Rattle.cjc_types.specs.declared.cell.Cell.TheVariants.{Number, Unusable}
use Rattle.cjc_types.specs.declared.state.Stack.TheVariants.{Cells}
use Rattle.cjc_types.specs.World.Classes.{Class}
use Rattle.cjc_verify.specs.CardSemantics.Bytecode.Effects as letters
use Rattle.cjc_frames.specs.declared.acts.Given.{Given}
use Rattle.cjc_frames.specs.declared.acts.Given.TheVariants.{ANumber, ANull}
use Rattle.cjc_frames.specs.declared.acts.Given.TheVariants as given_words
use Rattle.cjc_frames.specs.declared.acts.Need.{Need}
use Rattle.cjc_frames.specs.declared.acts.Need.TheVariants.{AnyWord, NumberWord, ReferenceWord}
use Rattle.cjc_frames.specs.Acts.{Subtype, given, has_wrong, is_wrong_local, meets}
use Rattle.cjc_verify.specs.CardActs.Rows.{any_words, calculating, idle, increasing, loading, number_words}
use Rattle.cjc_verify.specs.CardActs.Rows.{pushing, storing}
use Rattle.cjc_accepted_proof.specs.Frames.{Mirrors, card_cell, card_cells}
use Rattle.cjc_accepted_proof.specs.Plain.{letter_moving, tested, tested_words}
use Rattle.cjc_accepted_proof.proofs.KindsLaws.{first_operand}
use Rattle.cjc_accepted_proof.proofs.RowsLaws.{zip_itself}
use Rattle.cjc_accepted_proof.proofs.InstructionsLaws.Operands.{any_met, local_there, not_lacking, number_meets}
use Rattle.cjc_accepted_proof.proofs.InstructionsLaws.Operands.{one_need}
use Rattle.cjc_accepted_proof.proofs.InstructionsLaws.Operands.{operand_same, operands_same, reference_meets}
use Rattle.cjc_accepted_proof.proofs.InstructionsLaws.Operands.{reference_same, two_needs, zip_same}

module _ (card_type : List ℕ → Option (List ℕ)) (is_of : Subtype) where
  abbrev cells : List Cell → List Cell
  cells = card_cells card_type

  -- ---- words that are put

  -- null
  pub null_mirrors : (ls s : List Cell) → Mirrors card_type is_of jop.Null (pushing (ANull ∷ [])) ls s
  null_mirrors ls s = record {
    as_many = refl;
    puts = (λ n i. i, tt);
    writes = zip_itself (cells ls);
    operands = refl;
    locals_right = refl;
    fits = refl;
    there = refl;
    known = refl;
    named = refl;
  }

  -- a number
  pub number_mirrors : (z : ℤ) (ls s : List Cell) → Mirrors card_type is_of (jop.Number z) (pushing (ANumber ∷ [])) ls s
  number_mirrors z ls s = record {
    as_many = refl;
    puts = (tt, tt);
    writes = zip_itself (cells ls);
    operands = refl;
    locals_right = refl;
    fits = refl;
    there = refl;
    known = refl;
    named = refl;
  }

  -- ---- locals

  -- a local of the right kind is there
  in_range : (ls : List Cell) (k : ℕ) (test : Cell → Bool) → test Unusable ≡ false → not (test (operand ls k)) ≡ false
      → k < length ls
  in_range [] k test none e = absurd (by (test Unusable) none e)
    where
      by : (b : Bool) → b ≡ false → not b ≡ false → ⊥
      by true f g = absurd cc
      by false f g = absurd cc
  in_range (x ∷ ls) zero test none e = omega arith
  in_range (x ∷ ls) (suc k) test none e = let lt = in_range ls k test none e in omega (arith, lt)

  right : (b : Bool) → not b ≡ false → b ≡ true
  right true e = refl
  right false e = absurd cc

  pub load_mirrors : (refs : Bool) (k : ℕ) (ls s : List Cell) → has_wrong_local_by_name (jop.Load refs k) ls ≡ false
      → Mirrors card_type is_of (jop.Load refs k) (loading (letter_moving refs) k) ls s
  load_mirrors true k ls s e =
      let lt = in_range ls k is_reference refl e in
      record {
        as_many = refl;
        puts = zip_same (given (cells ls) (cells s) (given_words.Local k) ∷ []) (cells (as_reference (operand ls k)
            ∷ [])) (ap (λ x. x ∷ []) (ap as_reference (operand_same card_type ls k) ∙ reference_same card_type (operand
            ls k)));
        writes = zip_itself (cells ls);
        operands = refl;
        locals_right = ap (λ o. is_wrong_local is_of ReferenceWord o || false) (local_there card_type ls k lt)
            ∙ ap (λ b. not b || false) (reference_meets card_type is_of (operand ls k) (right (is_reference (operand ls
            k)) e));
        fits = refl;
        there = ap (λ b. (b || false) || false) (not_lacking card_type ls k lt);
        known = refl;
        named = refl;
      }
  load_mirrors false k ls s e =
      let lt = in_range ls k is_number refl e in
      record {
        as_many = refl;
        puts = (tt, tt);
        writes = zip_itself (cells ls);
        operands = refl;
        locals_right = ap (λ o. is_wrong_local is_of NumberWord o || false) (local_there card_type ls k lt)
            ∙ ap (λ b. not b || false) (number_meets card_type is_of (operand ls k) (right (is_number
            (operand ls k)) e));
        fits = refl;
        there = ap (λ b. (b || false) || false) (not_lacking card_type ls k lt);
        known = refl;
        named = refl;
      }

  pub increase_mirrors : (k : ℕ) (by : ℤ) (ls s : List Cell) → has_wrong_local_by_name (jop.Inc k by) ls ≡ false
      → Mirrors card_type is_of (jop.Inc k by) (increasing letters.Short k) ls s
  increase_mirrors k by ls s e =
      let lt = in_range ls k is_number refl e in
      record {
        as_many = refl;
        puts = tt;
        writes = zip_same (slice_set (cells ls) k Number) (cells (slice_set ls k Number)) (map_set (card_cell card_type)
            ls k Number);
        operands = refl;
        locals_right = ap (λ o. is_wrong_local is_of NumberWord o || false) (local_there card_type ls k lt)
            ∙ ap (λ b. not b || false) (number_meets card_type is_of (operand ls k) (right (is_number
            (operand ls k)) e));
        fits = refl;
        there = ap (λ b. (b || false) || (b || false)) (not_lacking card_type ls k lt);
        known = refl;
        named = refl;
      }

  -- ---- the stack's instructions

  -- operands are put back in some order
  pub shuffle_mirrors : (opcode n : ℕ) (ks : List ℕ) → stack_takes opcode ≡ n → shuffled opcode ≡ ks → (ls s : List
      Cell) → Mirrors card_type is_of (jop.Stack opcode) (record idle {
        takes = any_words n;
        gives = map given_words.Operand ks;
      }) ls s
  shuffle_mirrors opcode n ks many put ls s = record {
    as_many = length-replicate n AnyWord ∙ sym many;
    puts = zip_same (map (given (cells ls) (cells s)) (map given_words.Operand ks)) (cells (map (operand s) (shuffled
        opcode))) (operands_same card_type (cells ls) s ks ∙ ap (λ js. cells (map (operand s) js)) (sym put));
    writes = zip_itself (cells ls);
    operands = any_met card_type is_of n s;
    locals_right = refl;
    fits = refl;
    there = refl;
    known = refl;
    named = refl;
  }

  -- ---- what takes words alone

  -- words are taken, and nothing is put
  pub taking_mirrors : (op : JOp) (ns : List Need) (falls : Bool) (targets : List ℕ) → length ns ≡ takes op
      → ((ls s : List Cell) → gives op ls s ≡ []) → ((ls s : List Cell) → locals_after op ls (Cells s) ≡ ls)
      → (ls s : List Cell) → has_wrong is_of ns (cells s) ≡ false → Mirrors card_type is_of op (record idle {
        takes = ns;
        falls = falls;
        targets = targets;
      }) ls s
  taking_mirrors op ns falls targets many puts stays ls s right = record {
    as_many = many;
    puts = zip_same [] (cells (gives op ls s)) (ap cells (sym (puts ls s)));
    writes = zip_same (cells ls) (cells (locals_after op ls (Cells s))) (ap cells (sym (stays ls s)));
    operands = right;
    locals_right = refl;
    fits = refl;
    there = refl;
    known = refl;
    named = refl;
  }

  -- goto
  pub goto_mirrors : (target : ℕ) (targets : List ℕ) (ls s : List Cell) → Mirrors card_type is_of (jop.Goto target)
      (record idle { takes = []; falls = false; targets = targets }) ls s
  goto_mirrors target targets ls s = taking_mirrors (jop.Goto target) [] false targets refl (λ ls s. refl)
      (λ ls s. refl) ls s refl

  module _ (w : List Class) (b : Body) where
    -- the operand on top is one that the instruction accepts
    pub on_top : (op : JOp) (count : ℕ) (s : List Cell) → has_wrong_by_name w b op count 0 s ≡ false → 0 < count
        → (x : Cell) → slice_get s 0 ≡ Some x → accepts w b op 0 x ≡ true
    on_top op count s e lt x f = first_operand w b op count s e 0 x f lt

    -- stores into locals
    pub store_mirrors : (refs : Bool) (k : ℕ) (ls s : List Cell) → k < length ls → has_wrong_by_name w b (jop.Store refs
        k) 1 0 s ≡ false → Mirrors card_type is_of (jop.Store refs k) (storing (letter_moving refs) k) ls s
    store_mirrors true k ls s lt e = record {
      as_many = refl;
      puts = tt;
      writes = zip_same (slice_set (cells ls) k (as_reference (operand (cells s) 0))) (cells (slice_set ls k
          (as_reference (operand s 0)))) (ap (slice_set (cells ls) k) (ap as_reference (operand_same card_type s 0)
          ∙ reference_same card_type (operand s 0)) ∙ map_set (card_cell card_type) ls k (as_reference (operand s 0)));
      operands = one_need card_type is_of ReferenceWord s (λ x f. reference_meets card_type is_of x (on_top (jop.Store
          true k) 1 s e (omega arith) x f));
      locals_right = refl;
      fits = refl;
      there = ap (λ b. false || (b || false)) (not_lacking card_type ls k lt);
      known = refl;
      named = refl;
    }
    store_mirrors false k ls s lt e = record {
      as_many = refl;
      puts = tt;
      writes = zip_same (slice_set (cells ls) k Number) (cells (slice_set ls k Number)) (map_set (card_cell card_type)
          ls k Number);
      operands = one_need card_type is_of NumberWord s (λ x f. number_meets card_type is_of x (on_top (jop.Store false
          k) 1 s e (omega arith) x f));
      locals_right = refl;
      fits = refl;
      there = ap (λ b. false || (b || false)) (not_lacking card_type ls k lt);
      known = refl;
      named = refl;
    }

    -- ---- numbers

    -- one word of one
    pub one_word_mirrors : (op : JOp) (n : Need) (g : Given) (c : Cell) → takes op ≡ 1
        → ((ls s : List Cell) → gives op ls s ≡ c ∷ []) → ((ls s : List Cell) → locals_after op ls (Cells s) ≡ ls)
        → ((ls s : List Cell) → IsCellBelow (given ls s g) (card_cell card_type c))
        → ((x : Cell) → accepts w b op 0 x ≡ true → meets is_of n (card_cell card_type x) ≡ true)
        → (ls s : List Cell) → has_wrong_by_name w b op 1 0 s ≡ false → Mirrors card_type is_of op (record idle {
          takes = n ∷ [];
          gives = g ∷ [];
        }) ls s
    one_word_mirrors op n g c one puts stays below passes ls s e = record {
      as_many = sym one;
      puts = subst (λ (zs : List Cell). AllZip IsCellBelow (given (cells ls) (cells s) g ∷ []) (cells zs)) (sym (puts ls
          s)) (below (cells ls) (cells s), tt);
      writes = zip_same (cells ls) (cells (locals_after op ls (Cells s))) (ap cells (sym (stays ls s)));
      operands = one_need card_type is_of n s (λ x f. passes x (on_top op 1 s e (omega arith) x f));
      locals_right = refl;
      fits = refl;
      there = refl;
      known = refl;
      named = refl;
    }

    -- ineg
    pub negation_mirrors : (ls s : List Cell) → has_wrong_by_name w b (jop.Arith jvm.ineg) 1 0 s ≡ false
        → Mirrors card_type is_of (jop.Arith jvm.ineg) (calculating 1 1) ls s
    negation_mirrors = one_word_mirrors (jop.Arith jvm.ineg) NumberWord ANumber Number refl (λ ls s. refl)
        (λ ls s. refl) (λ ls s. tt) (λ x e. number_meets card_type is_of x e)

    -- i2b
    pub narrowing_mirrors : (opcode : ℕ) (ls s : List Cell) → has_wrong_by_name w b (jop.Narrow opcode) 1 0 s ≡ false
        → Mirrors card_type is_of (jop.Narrow opcode) (calculating 1 1) ls s
    narrowing_mirrors opcode = one_word_mirrors (jop.Narrow opcode) NumberWord ANumber Number refl (λ ls s. refl)
        (λ ls s. refl) (λ ls s. tt) (λ x e. number_meets card_type is_of x e)

    tested_meets : (references : Bool) (x : Cell) → (if references then is_reference x else is_number x) ≡ true
        → meets is_of (tested references) (card_cell card_type x) ≡ true
    tested_meets true x e = reference_meets card_type is_of x e
    tested_meets false x e = number_meets card_type is_of x e

    -- jumps on a condition
    pub branch_mirrors : (opcode target : ℕ) (two references : Bool) → compares opcode ≡ two → tests_references opcode ≡
        references → (targets : List ℕ) (ls s : List Cell) → has_wrong_by_name w b (jop.If opcode target)
        (takes (jop.If opcode target)) 0 s ≡ false → Mirrors card_type is_of (jop.If opcode target) (record idle {
          takes = tested_words two references;
          falls = true;
          targets = targets;
        }) ls s
    branch_mirrors opcode target two references is tests targets ls s e = by two is
      where
        passes : (count k : ℕ) → has_wrong_by_name w b (jop.If opcode target) count 0 s ≡ false → k < count → (x : Cell)
            → slice_get s k ≡ Some x → meets is_of (tested references) (card_cell card_type x) ≡ true
        passes count k f lt x g = tested_meets references x (sym (ap (λ t. if t then is_reference x else is_number x)
            tests) ∙ first_operand w b (jop.If opcode target) count s f k x g lt)

        by : (two : Bool) → compares opcode ≡ two → Mirrors card_type is_of (jop.If opcode target) (record idle {
          takes = tested_words two references;
          falls = true;
          targets = targets;
        }) ls s
        by true g =
            let many : takes (jop.If opcode target) ≡ 2 = ap (λ (t : Bool). if t then 2 else 1) g in
            let f = sym (ap (λ n. has_wrong_by_name w b (jop.If opcode target) n 0 s) many) ∙ e in
            taking_mirrors (jop.If opcode target) (tested_words true references) true targets (sym many) (λ ls s. refl)
            (λ ls s. refl) ls s (two_needs card_type is_of (tested references) (tested references) s (passes 2 0 f
            (omega arith)) (passes 2 1 f (omega arith)))
        by false g =
            let many : takes (jop.If opcode target) ≡ 1 = ap (λ (t : Bool). if t then 2 else 1) g in
            let f = sym (ap (λ n. has_wrong_by_name w b (jop.If opcode target) n 0 s) many) ∙ e in
            taking_mirrors (jop.If opcode target) (tested_words false references) true targets (sym many) (λ ls s. refl)
            (λ ls s. refl) ls s (one_need card_type is_of (tested references) s (passes 1 0 f (omega arith)))

    -- switches over a table, and over pairs
    pub table_mirrors : (other : ℕ) (low : ℤ) (cases targets : List ℕ) (ls s : List Cell) → has_wrong_by_name w b
        (jop.TableSwitch other low cases) 1 0 s ≡ false → Mirrors card_type is_of (jop.TableSwitch other low cases)
        (record idle { takes = number_words 1; falls = false; targets = targets }) ls s
    table_mirrors other low cases targets ls s e = taking_mirrors (jop.TableSwitch other low cases) (number_words 1)
        false targets refl (λ ls s. refl) (λ ls s. refl) ls s (one_need card_type is_of NumberWord s (λ x f.
        number_meets card_type is_of x (on_top (jop.TableSwitch other low cases) 1 s e (omega arith) x f)))

    pub lookup_mirrors : (other : ℕ) (cases : List JCase) (targets : List ℕ) (ls s : List Cell) → has_wrong_by_name w b
        (jop.LookupSwitch other cases) 1 0 s ≡ false → Mirrors card_type is_of (jop.LookupSwitch other cases)
        (record idle { takes = number_words 1; falls = false; targets = targets }) ls s
    lookup_mirrors other cases targets ls s e = taking_mirrors (jop.LookupSwitch other cases) (number_words 1) false
        targets refl (λ ls s. refl) (λ ls s. refl) ls s (one_need card_type is_of NumberWord s (λ x f. number_meets
        card_type is_of x (on_top (jop.LookupSwitch other cases) 1 s e (omega arith) x f)))
