-- What is written for an instruction that names nothing and has no guard stands between its frames, where they break no
-- rule.
use Rattle.std.proofs.Common.{◌≡◌, ℕ, ◌+◌, ◌*◌, ◌<◌, refl, sym, ap, ◌∙◌, arith, Bool, true, false, List, []}
use Rattle.std.proofs.Common.{◌∷◌, map, length, slice_get, Contains, inl, inr, Option, Some}
use Rattle.std.specs.Prelude.{◌==◌, ◌||◌, ◌&&◌, nat_le, nat_lt, if◌then◌else◌, ℤ}
use Rattle.std.proofs.lemmas.Bool.Decides.{nat_tests}
use Rattle.cjc_types.specs.Bytecode.Jvm as jvm
use Rattle.cjc_types.specs.Bytecode.declared.insn.JCase.{JCase}
use Rattle.cjc_types.specs.Bytecode.declared.insn.JOp.{JOp}
use Rattle.cjc_types.specs.Bytecode.declared.insn.JOp.TheVariants as jop
use Rattle.cjc_types.specs.Fixpoint.Working.Edges.{contains_cons, contains_head, contains_tail}
use Rattle.cjc_types.specs.Flow.{Body as BodyByName}
use Rattle.cjc_types.specs.Rules.{Breaks as BreaksByName, clash, has_wrong as has_wrong_by_name, off, wrong}
use Rattle.cjc_types.specs.Rules.{has_wrong_local as has_wrong_local_by_name, is_off as is_off_by_name}
use Rattle.cjc_types.specs.Rules.{is_wrong as is_wrong_by_name, is_wrong_return, tests_references}
use Rattle.cjc_types.specs.Steps.{case_target, compares, goes_on as goes_on_by_name, stack_behind as behind_by_name}
use Rattle.cjc_types.specs.Steps.{takes}
use Rattle.cjc_types.specs.World.Classes.{Class}
use Rattle.cjc_types.specs.declared.cell.Cell.{Cell}
use Rattle.cjc_types.specs.declared.cell.Cell.TheVariants.{Unusable}
use Rattle.cjc_types.specs.declared.state.Stack.{Stack}
use Rattle.cjc_types.specs.declared.state.Stack.TheVariants.{Cells, Clash}
use Rattle.cjc_types.specs.declared.state.State.{State}
use Rattle.cjc_check_proof.specs.NCode.Lowering.Naming.{Naming}
use Rattle.cjc_check_proof.specs.NCode.Written.{Resolution}
use Rattle.cjc_ncode.specs.IntCode.IntCode.{Before, Frame, first_word, nargs, written}
use Rattle.cjc_frames.specs.Acts.{Subtype}
use Rattle.cjc_frames.specs.declared.acts.Act.{Act}
use Rattle.cjc_frames.specs.declared.acts.Given.TheVariants.{ANull, ANumber}
use Rattle.cjc_frames.specs.declared.acts.Need.TheVariants.{NumberWord, ReferenceWord}
use Rattle.cjc_verify.specs.CardActs.CardTypes.{ValueType}
use Rattle.cjc_verify.specs.CardActs.Rows.{calculating, increasing, loading, number_words, pushing, storing}
use Rattle.cjc_verify.specs.CardSemantics.Bytecode.Effects as letters
use Rattle.cjc_verify.specs.Pairs.{Pair}
use Rattle.cjc_int_accepted.specs.Acts.{letter_of_local, taking}
use Rattle.cjc_int_accepted.specs.Ends.{LeadAtEnd, falls_behind}
use Rattle.cjc_int_accepted.specs.Frames.{Room, word_of}
use Rattle.cjc_int_accepted.specs.Laid.{acts_laid}
use Rattle.cjc_int_accepted.specs.Methods.{Selection, acts_of}
use Rattle.cjc_int_accepted.specs.Reached.{IsRight}
use Rattle.cjc_int_accepted.specs.Runs.{Runs}
use Rattle.cjc_int_accepted.specs.Standing.{IsStanding}
use Rattle.cjc_int_accepted.proofs.RowsLaws.Locals.{increase_runs, load_runs, store_runs}
use Rattle.cjc_int_accepted.proofs.RowsLaws.Plain.{arithmetic_runs, compare_runs, goto_runs, narrowing_runs}
use Rattle.cjc_int_accepted.proofs.RowsLaws.Plain.{negation_runs, nop_runs, null_runs, number_runs, pairs_run}
use Rattle.cjc_int_accepted.proofs.RowsLaws.Plain.{reference_runs, references_run, table_runs, zero_runs}
use Rattle.cjc_int_accepted.proofs.StandLaws.{none_in, nowhere, stands_by_acts}
use Rattle.cjc_int_accepted.proofs.WrittenLaws as laid

-- ---- opcodes of jumps

none_of : (a c d e : Bool) → a ≡ false → c ≡ false → d ≡ false → e ≡ false → (a || c || d || e) ≡ false
none_of false false false false f g h i = refl
none_of true c d e f g h i = absurd cc
none_of false true d e f g h i = absurd cc
none_of false false true e f g h i = absurd cc
none_of false false false true f g h i = absurd cc

no_reference : (op : ℕ) → nat_le op jvm.if_icmple ≡ true → tests_references op ≡ false
no_reference op e =
    let a : (op == jvm.if_acmpeq) ≡ false = grind (arith, nat_tests, e) in
    let c : (op == jvm.if_acmpne) ≡ false = grind (arith, nat_tests, e) in
    let d : (op == jvm.ifnull) ≡ false = grind (arith, nat_tests, e) in
    let f : (op == jvm.ifnonnull) ≡ false = grind (arith, nat_tests, e) in
    none_of (op == jvm.if_acmpeq) (op == jvm.if_acmpne) (op == jvm.ifnull) (op == jvm.ifnonnull) a c d f

of_one : (op : ℕ) → nat_le op jvm.ifle ≡ true → compares op ≡ false
of_one op e =
    let f : nat_le jvm.if_icmpeq op ≡ false = grind (arith, nat_tests, e) in ap (λ c. c && nat_le op jvm.if_acmpne) f

of_two : (op : ℕ) → nat_le op jvm.ifle ≡ false → nat_le op jvm.if_icmple ≡ true → compares op ≡ true
of_two op d e =
    let f : nat_le jvm.if_icmpeq op ≡ true = grind (arith, nat_tests, d) in
    let g : nat_le op jvm.if_acmpne ≡ true = grind (arith, nat_tests, e) in
    ap (λ c. c && nat_le op jvm.if_acmpne) f ∙ g

few : (op : ℕ) → nat_le op jvm.ifle ≡ true → nat_le op jvm.if_icmple ≡ true
few op e = grind (arith, nat_tests, e)

module _ (label to : ℕ → ℕ) where
  -- offsets of what is written for targets
  led : (ts : List ℕ) (offset : ℕ) → Contains (map (λ t. to (label t)) ts) offset → (t : ℕ) × Contains ts t
      × (offset ≡ to (label t))
  led [] offset on = absurd (none_in offset on)
  led (t ∷ ts) offset on = elim (contains_cons (to (label t)) (map (λ k. to (label k)) ts) offset on) [
    | inl same ↦ (t, contains_head t ts, sym same)
    | inr later ↦ (let q = led ts offset later in (q.0, contains_tail t ts q.0 q.1, q.2))
  ]

module _ (card_type : List ℕ → Option (List ℕ)) (is_of : Subtype) (m : Room) (new : Selection) (b : BodyByName)
    (rows : List (Option State)) (label to : ℕ → ℕ) (p : Pair) (result : ValueType) (n : Naming) (wide : ℕ → Bool)
    (f : Frame) (r : Resolution) (known : Before) (w : List Class) (count place here o : ℕ) (x : State) where
  abbrev Standing : JOp → Type 0
  Standing op = IsStanding card_type is_of m new b rows label to p result n wide f r known w count place here o x op

  -- by its acts
  pub standing : (op : JOp) (acts : List Act) → acts_laid p result n to wide here (written f r label known here op)
      ≡ acts → ((q : IsRight w b op x) → Runs card_type is_of m b.max_stack op acts x.locals q.stack)
      → LeadAtEnd label to op acts → (falls_behind acts ≡ true → goes_on_by_name op ≡ true) → Standing op
  standing op acts e runs ends falls q selected = stands_by_acts card_type is_of m new b rows label to count place here
      (record { at = o; op = op }) x q.stack acts q.is (ap acts_of selected ∙ e) (runs q) ends falls

  pub nop_stands : Standing jop.Nop
  nop_stands = standing jop.Nop [] refl (λ q. nop_runs card_type is_of m b.max_stack x.locals q.stack) tt (λ h. refl)

  pub null_stands : Standing jop.Null
  null_stands = standing jop.Null (pushing (ANull ∷ []) ∷ []) (laid.null_acts p result n to wide f r label known here)
      (λ q. null_runs card_type is_of m b.max_stack x.locals q.stack q.on) (nowhere label to jop.Null) (λ h. refl)

  pub number_stands : (z : ℤ) → Standing (jop.Number z)
  number_stands z = standing (jop.Number z) (pushing (ANumber ∷ ANumber ∷ []) ∷ []) (laid.number_acts p result n to
      wide f r label known here z) (λ q. number_runs card_type is_of m b.max_stack z x.locals q.stack q.on) (nowhere
      label to (jop.Number
      z)) (λ h. refl)

  pub negation_stands : Standing (jop.Arith jvm.ineg)
  negation_stands = standing (jop.Arith jvm.ineg) (calculating 2 2 ∷ []) (laid.negation_acts p result n to wide f r
      label known here) (λ q. negation_runs card_type is_of m b.max_stack w b x.locals q.stack q.on q.operands)
      (nowhere label to
      (jop.Arith jvm.ineg)) (λ h. refl)

  pub arithmetic_stands : (op : ℕ) → (op == jvm.ineg) ≡ false → Standing (jop.Arith op)
  arithmetic_stands op two = standing (jop.Arith op) (calculating 4 2 ∷ []) (laid.arithmetic_acts p result n to wide f r
      label known here op two) (λ q. arithmetic_runs card_type is_of m b.max_stack w b op two x.locals q.stack q.on
      (two_wrong q.stack (op == jvm.ineg) two q.operands)) (nowhere label to (jop.Arith op)) (λ h. refl)
    where
      two_wrong : (s : List Cell) (c : Bool) → c ≡ false → has_wrong_by_name w b (jop.Arith op) (if c then 1 else 2) 0 s
          ≡ false → has_wrong_by_name w b (jop.Arith op) 2 0 s ≡ false
      two_wrong s true e g = absurd cc
      two_wrong s false e g = g

  pub narrowing_stands : (op : ℕ) → Standing (jop.Narrow op)
  narrowing_stands op = standing (jop.Narrow op) (calculating 2 1 ∷ calculating 1 2 ∷ []) (laid.narrowing_acts p result
      n to wide f r label known here op) (λ q. narrowing_runs card_type is_of m b.max_stack w b op x.locals q.stack q.on
      q.operands) (none_in, nowhere label to (jop.Narrow op)) (λ h. refl)

  pub goto_stands : (target : ℕ) → Standing (jop.Goto target)
  goto_stands target = standing (jop.Goto target) (taking [] [] false (to (label target) ∷ []) ∷ []) (laid.goto_acts p
      result n to wide f r label known here target) (λ q. goto_runs card_type is_of m b.max_stack target (to (label
      target) ∷ []) x.locals q.stack q.on) (led label to (target ∷ [])) (λ h. absurd cc)

  pub table_stands : (other : ℕ) (low : ℤ) (ts : List ℕ) → Standing (jop.TableSwitch other low ts)
  table_stands other low ts = standing (jop.TableSwitch other low ts) (taking (number_words 2) [] false (map (λ t. to
      (label t)) (other ∷ ts)) ∷ []) (laid.table_acts p result n to wide f r label known here other low ts) (λ q.
      table_runs
      card_type is_of m b.max_stack w b other low ts (map (λ t. to (label t)) (other ∷ ts)) x.locals q.stack q.on
      q.operands) (led label to (other ∷ ts)) (λ h. absurd cc)

  pub lookup_stands : (other : ℕ) (cases : List JCase) → Standing (jop.LookupSwitch other cases)
  lookup_stands other cases = standing (jop.LookupSwitch other cases) (taking (number_words 2) [] false (map (λ t. to
      (label t)) (other ∷ map case_target cases)) ∷ []) (laid.lookup_acts p result n to wide f r label known here other
      cases)
      (λ q. pairs_run card_type is_of m b.max_stack w b other cases (map (λ t. to (label t)) (other ∷ map case_target
      cases)) x.locals q.stack q.on q.operands) (led label to (other ∷ map case_target cases)) (λ h. absurd cc)

  -- ---- jumps

  -- operands that it takes, by how many they are
  taken : (op target count : ℕ) (c : Bool) → (if c then 2 else 1) ≡ count → compares op ≡ c → (s : List Cell)
      → has_wrong_by_name w b (jop.If op target) (takes (jop.If op target)) 0 s ≡ false → has_wrong_by_name w b (jop.If
      op target) count 0 s ≡ false
  taken op target count c k e s g =
      sym (ap (λ j. has_wrong_by_name w b (jop.If op target) j 0 s) (ap (λ (d : Bool). if d then 2 else 1) e ∙ k)) ∙ g

  pub zero_stands : (op target : ℕ) → nat_le op jvm.ifle ≡ true → Standing (jop.If op target)
  zero_stands op target e = standing (jop.If op target) (pushing (ANumber ∷ ANumber ∷ []) ∷ calculating 4 1 ∷ taking
      (NumberWord ∷ []) [] true (to (label target) ∷ []) ∷ []) (laid.number_jump_acts p result n to wide f r label known
      here op target e) (λ q. zero_runs card_type is_of m b.max_stack w b op target (to (label target) ∷ []) (of_one op
      e) (no_reference op (few op e)) x.locals q.stack q.on (taken op target 1 false refl (of_one op e) q.stack
      q.operands)) (none_in, (none_in, led label to (target ∷ []))) (λ h. refl)

  pub compare_stands : (op target : ℕ) → nat_le op jvm.ifle ≡ false → nat_le op jvm.if_icmple ≡ true → Standing (jop.If
      op target)
  compare_stands op target d e = standing (jop.If op target) (calculating 4 1 ∷ taking (NumberWord ∷ []) [] true (to
      (label target) ∷ []) ∷ []) (laid.numbers_jump_acts p result n to wide f r label known here op target d e)
      (λ q. compare_runs card_type is_of m b.max_stack w b op target (to (label target) ∷ []) (of_two op d e)
      (no_reference op e) x.locals q.stack q.on (taken op target 2 true refl (of_two op d e) q.stack q.operands))
      (none_in, led label to (target ∷ [])) (λ h. refl)

  pub if_acmpeq_stands : (target : ℕ) → Standing (jop.If jvm.if_acmpeq target)
  if_acmpeq_stands target = standing (jop.If jvm.if_acmpeq target) (taking (ReferenceWord ∷ ReferenceWord ∷ []) [] true
      (to (label target) ∷ []) ∷ []) (laid.if_acmpeq_acts p result n to wide f r label known here target)
      (λ q. references_run card_type is_of m b.max_stack w b jvm.if_acmpeq target (to (label target) ∷ []) refl refl
      x.locals q.stack q.on q.operands) (led label to (target ∷ [])) (λ h. refl)

  pub if_acmpne_stands : (target : ℕ) → Standing (jop.If jvm.if_acmpne target)
  if_acmpne_stands target = standing (jop.If jvm.if_acmpne target) (taking (ReferenceWord ∷ ReferenceWord ∷ []) [] true
      (to (label target) ∷ []) ∷ []) (laid.if_acmpne_acts p result n to wide f r label known here target)
      (λ q. references_run card_type is_of m b.max_stack w b jvm.if_acmpne target (to (label target) ∷ []) refl refl
      x.locals q.stack q.on q.operands) (led label to (target ∷ [])) (λ h. refl)

  pub ifnull_stands : (target : ℕ) → Standing (jop.If jvm.ifnull target)
  ifnull_stands target = standing (jop.If jvm.ifnull target) (taking (ReferenceWord ∷ []) [] true (to (label target) ∷
      []) ∷ []) (laid.ifnull_acts p result n to wide f r label known here target) (λ q. reference_runs card_type is_of m
      b.max_stack w b jvm.ifnull target (to (label target) ∷ []) refl refl x.locals q.stack q.on q.operands) (led label
      to (target ∷ [])) (λ h. refl)

  pub ifnonnull_stands : (target : ℕ) → Standing (jop.If jvm.ifnonnull target)
  ifnonnull_stands target = standing (jop.If jvm.ifnonnull target) (taking (ReferenceWord ∷ []) [] true (to (label
      target) ∷ []) ∷ []) (laid.ifnonnull_acts p result n to wide f r label known here target) (λ q. reference_runs
      card_type
      is_of m b.max_stack w b jvm.ifnonnull target (to (label target) ∷ []) refl refl x.locals q.stack q.on q.operands)
      (led label to (target ∷ [])) (λ h. refl)

  -- ---- locals

  module _ (args : nargs f ≡ m.arguments) where
    first_is : (k : ℕ) → first_word f k ≡ word_of m k
    first_is k = ap (λ j. j + 2 * k) args

    pub load_stands : (refs : Bool) (k : ℕ) → Standing (jop.Load refs k)
    load_stands refs k = standing (jop.Load refs k) (loading (letter_of_local refs) (word_of m k) ∷ []) (laid.load_acts
        p result n to wide f r label known here refs k ∙ ap (λ j. loading (letter_of_local refs) j ∷ []) (first_is k))
        (λ q. load_runs card_type is_of m b.max_stack refs k x.locals q.stack q.on q.local) (ends refs) (λ h. refl)
      where
        ends : (t : Bool) → LeadAtEnd label to (jop.Load t k) (loading (letter_of_local t) (word_of m k) ∷ [])
        ends true = nowhere label to (jop.Load true k)
        ends false = nowhere label to (jop.Load false k)

    pub store_stands : (refs : Bool) (k : ℕ) → k < length x.locals → Standing (jop.Store refs k)
    store_stands refs k lt = standing (jop.Store refs k) (storing (letter_of_local refs) (word_of m k) ∷ [])
        (laid.store_acts
        p result n to wide f r label known here refs k ∙ ap (λ j. storing (letter_of_local refs) j ∷ []) (first_is k))
        (λ q. store_runs card_type is_of m b.max_stack w b refs k x.locals q.stack lt q.on q.operands) (ends refs)
        (λ h. refl)
      where
        ends : (t : Bool) → LeadAtEnd label to (jop.Store t k) (storing (letter_of_local t) (word_of m k) ∷ [])
        ends true = nowhere label to (jop.Store true k)
        ends false = nowhere label to (jop.Store false k)

    pub increase_stands : (k : ℕ) (z : ℤ) → Standing (jop.Inc k z)
    increase_stands k z = standing (jop.Inc k z) (increasing letters.Int (word_of m k) ∷ []) (laid.increase_acts p
        result n to wide f r label known here k z ∙ ap (λ j. increasing letters.Int j ∷ []) (first_is k)) (λ q.
        increase_runs
        card_type is_of m b.max_stack k z x.locals q.stack q.on q.local) (nowhere label to (jop.Inc k z)) (λ h. refl)

-- ---- frames that break no rule

false_of : (c : Bool) → (c ≡ true → ⊥) → c ≡ false
false_of true contrary = absurd (contrary refl)
false_of false contrary = refl

three_false : (a c d : Bool) → (a || c || d) ≡ false → (a ≡ false) × (c ≡ false) × (d ≡ false)
three_false false false false e = (refl, refl, refl)
three_false true c d e = absurd cc
three_false false true d e = absurd cc
three_false false false true e = absurd cc

module _ (w : List Class) (b : BodyByName) (op : JOp) (ls : List Cell) where
  pub right_frame : (t : Stack) → ((rule : ℕ) → BreaksByName w b op (record { stack = t; locals = ls }) rule → ⊥)
      → ((s : List Cell) → t ≡ Cells s → goes_on_by_name op ≡ true → (k : ℕ) → slice_get (behind_by_name op ls s) k
      ≡ Some Unusable → ⊥) → IsRight w b op (record { stack = t; locals = ls })
  right_frame Clash unbroken usable = absurd (unbroken 501 (clash ls))
  right_frame (Cells s) unbroken usable =
      let g = three_false (has_wrong_by_name w b op (takes op) 0 s) (has_wrong_local_by_name op ls) (is_wrong_return b
      op) (false_of (is_wrong_by_name w b op ls s) (λ h. unbroken 502 (wrong s ls h))) in
      let h = three_false (nat_lt (length s) (takes op)) (nat_lt b.max_stack (length s)) (nat_lt b.max_stack (length
      (behind_by_name op ls s))) (false_of (is_off_by_name b op ls s) (λ h. unbroken 503 (off s ls h))) in
      let h0 = h.0 in
      let h1 = h.1 in
      let h2 = h.2 in
      record {
        stack = s;
        is = refl;
        on = record {
          enough = grind (arith, nat_tests, h0);
          before = grind (arith, nat_tests, h1);
          behind = grind (arith, nat_tests, h2);
          usable = usable s refl;
        };
        operands = g.0;
        local = g.1;
        result = g.2;
      }
