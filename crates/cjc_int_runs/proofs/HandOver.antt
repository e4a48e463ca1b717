-- Parameters are handed over by the types of the method that is called, and a result comes back.
use Rattle.std.proofs.Common.{◌≡◌, ℕ, suc, ◌+◌, ◌-◌, ◌≤◌, refl, sym, ap, subst, ◌∙◌, arith, List, [], ◌∷◌}
use Rattle.std.proofs.Common.{◌++◌, length, take, reverse, Bool, true, false, ◌||◌, append_assoc}
use Rattle.std.specs.Prelude.{Option, Some, ◌==◌, if◌then◌else◌}
use Rattle.std.specs.List.{list_any}
use Rattle.std.proofs.lemmas.List.{length-append, reverse-append}
use Rattle.cjc_script.specs.Bytes.declared.fault.MemberId.{MemberId}
use Rattle.cjc_range.specs.Words.{low_word}
use Rattle.cjc_range.specs.Span.{Span}
use Rattle.cjc_range.proofs.Order.{held_wider}
use Rattle.cjc_int_proof.specs.Bytecode.Jvm as jvm
use Rattle.cjc_int_proof.specs.Bytecode.declared.insn.JOp.TheVariants as jop
use Rattle.cjc_script.specs.declared.value.Value.{Value}
use Rattle.cjc_script.specs.declared.value.Value.TheVariants.{Num}
use Rattle.cjc_script.specs.Sorts.{Shape, Sort, Int, Reference, Signature, signature_of}
use Rattle.cjc_card_semantics.specs.Bytecode.Numbers.{spelt_by}
use Rattle.cjc_card_semantics.specs.Bytecode.Calculations.{int_words}
use Rattle.cjc_card_semantics.specs.Bytecode.Effects as narrow
use Rattle.cjc_card_semantics.specs.Bytecode.Meanings.{meaning}
use Rattle.cjc_ncode.specs.declared.narrow.NInsn.{NInsn}
use Rattle.cjc_ncode.specs.declared.narrow.NInsn.TheVariants as insns
use Rattle.cjc_ncode.specs.declared.narrow.NMethod.{NMethod}
use Rattle.cjc_ncode.specs.ByLabel.{Callee, Named, by_label, classes}
use Rattle.cjc_ncode.specs.Written.{Resolution, called, nargs_of}
use Rattle.cjc_ncode.specs.IntCode.IntCode.{Before, Frame, is_short, is_by_scratch, put_aside, taken_back, handed_over}
use Rattle.cjc_ncode.specs.IntCode.IntCode.{called_with, widened, widened_result}
use Rattle.cjc_jvm_semantics.specs.Linked.{Method, Linked}
use Rattle.cjc_jvm_semantics.specs.Effects.{Store, effect}
use Rattle.cjc_int_proof.specs.Walks.{Within as Inside, walk}
use Rattle.cjc_narrow_proof.specs.Selection.Callees.{Names}
use Rattle.cjc_narrow_proof.specs.Selection.Relation.{Kind, Range, Refers, NMemory}
use Rattle.cjc_narrow_proof.proofs.SelectionLaws.Callees.{call_does}
use Rattle.cjc_int_runs.specs.Calls.{onto, PassesInt, none_passed, a_word_passed, an_int_passed, a_reference_passed}
use Rattle.cjc_int_runs.specs.Calls.{HandsOver, CallInStep, IntCall, Resumed}
use Rattle.cjc_int_runs.specs.Relation.{IntStacks, number, reference, IntLocals, type_range, one_word, two_words}
use Rattle.cjc_int_runs.specs.Relation.{as_it_is, AllHanded, nothing, one_more}
use Rattle.cjc_int_runs.specs.Steps.{StandAt, behind, spot, HasIntRoom, IntResults, no_result, result}
use Rattle.cjc_int_runs.proofs.Spelling.{spelt_number, word_is_int}
use Rattle.cjc_int_runs.proofs.Stepping.{onward, led_out, heights, push_words}
use Rattle.cjc_int_runs.proofs.Guard.{behind_is, behind_both, stand_front, stand_back, and_onward}
use Rattle.cjc_int_runs.proofs.Prologue.{is_word_of}
use Rattle.cjc_int_runs.proofs.Aside.{all_put, all_back}

-- ---- flags

passed_long : {sorts : List Sort} {ps : List Kind} → PassesInt sorts ps → length sorts ≡ length ps
passed_long none_passed = refl
passed_long (a_word_passed short small more) = ap suc (passed_long more)
passed_long (an_int_passed more) = ap suc (passed_long more)
passed_long (a_reference_passed more) = ap suc (passed_long more)

neither : (a b : Bool) → (a || b) ≡ false → (a ≡ false) × (b ≡ false)
neither true b e = absurd cc
neither false b e = (refl, e)

second_of : (a b : Bool) → (a || b) ≡ true → a ≡ false → b ≡ true
second_of true b e f = absurd cc
second_of false b e f = e

by_scratch_next : (sort other : Sort) (more : List Sort) → is_by_scratch (sort ∷ other ∷ more)
    ≡ (is_short sort || is_by_scratch (other ∷ more))
by_scratch_next sort other more =
    let e : length (sort ∷ other ∷ more) - 1 ≡ suc (length (other ∷ more) - 1) = omega arith in
    ap (λ n. list_any is_short (take n (sort ∷ other ∷ more))) e

-- ---- without scratch pairs

module _ (l : Named) (f : Frame) (pairs : ℕ) (ls : List Kind) (code : NMethod) (here : ℕ) (vs ws : List Value)
    (locals words : List (Option Value)) (memory : NMemory) where
  abbrev Hands : List NInsn → List Sort → List Kind → List Kind → Type 0
  Hands list sorts ps ks = HandsOver l f pairs ls code here list sorts ps ks vs ws locals words memory

  -- a cell that is not cut, below those that are handed over
  module _ (list : List NInsn) (sorts : List Sort) (ps ks : List Kind) (args handed : List Value)
      (nlocals : List (Option Value)) (steps : ℕ) (few : steps ≤ length list)
      (all : AllHanded memory.heap sorts ps args handed) (h : IntLocals memory.heap f pairs ls locals nlocals) where
    int_below : (s : Span) (under below : List Value) → IntStacks memory.heap (Range s ∷ ks) under below
        → vs ≡ onto args under → walk (by_label l) code steps (spot here ws words memory)
        ≡ Inside (spot (behind here list) (onto handed below) nlocals memory) → Hands list (Int ∷ sorts) (Range s ∷ ps)
        ks
    int_below s _ _ (number {x = x} {high = high} {low = low} {vs = under} {ws = below} e inside rest) is leads =
        record {
          args = Num x ∷ args;
          under = under;
          handed = Num high ∷ Num low ∷ handed;
          below = below;
          nlocals = nlocals;
          steps = steps;
          few = few;
          by_name = is;
          leads = leads;
          agree = one_more (two_words e inside) all;
          rest = rest;
          locals_agree = h;
        }

    reference_below : (shape : Shape (List ℕ)) (within : Shape (List ℕ) → Bool) (under below : List Value)
        → IntStacks memory.heap (Refers within ∷ ks) under below
        → vs ≡ onto args under → walk (by_label l) code steps (spot here ws words memory)
        ≡ Inside (spot (behind here list) (onto handed below) nlocals memory)
        → Hands list (Reference shape ∷ sorts) (Refers within ∷ ps) ks
    reference_below shape within _ _ (reference {v = v} {vs = under} {ws = below} a rest) is leads = record {
      args = v ∷ args;
      under = under;
      handed = v ∷ handed;
      below = below;
      nlocals = nlocals;
      steps = steps;
      few = few;
      by_name = is;
      leads = leads;
      agree = one_more (as_it_is a) all;
      rest = rest;
      locals_agree = h;
    }

  one_below : (list : List NInsn) (sort : Sort) (kind : Kind) (sorts : List Sort) (ps ks : List Kind)
      → is_short sort ≡ false → PassesInt (sort ∷ sorts) (kind ∷ ps) → Hands list sorts ps (kind ∷ ks)
      → Hands list (sort ∷ sorts) (kind ∷ ps) ks
  one_below list _ _ sorts ps ks wide (a_word_passed short small more) p = absurd (let e = sym short ∙ wide in cc)
  one_below list _ _ sorts ps ks wide (an_int_passed {s = s} more) p =
      int_below list sorts ps ks p.args p.handed p.nlocals p.steps p.few p.agree p.locals_agree s p.under p.below p.rest
      p.by_name p.leads
  one_below list _ _ sorts ps ks wide (a_reference_passed {shape = shape} {within = within} more) p =
      reference_below list sorts ps ks p.args p.handed p.nlocals p.steps p.few p.agree p.locals_agree shape within
      p.under p.below p.rest p.by_name p.leads

  module _ (h : IntLocals memory.heap f pairs ls locals words) where
    -- no parameter has one word of a number
    none_cut : (sorts : List Sort) (ps ks : List Kind) → PassesInt sorts ps → list_any is_short sorts ≡ false
        → IntStacks memory.heap (onto ps ks) vs ws → Hands [] sorts ps ks
    none_cut _ _ ks none_passed e stacks = record {
      args = [];
      under = vs;
      handed = [];
      below = ws;
      nlocals = words;
      steps = 0;
      few = omega arith;
      by_name = refl;
      leads = refl;
      agree = nothing;
      rest = stacks;
      locals_agree = h;
    }
    none_cut _ _ ks (a_word_passed {sort = sort} {s = s} {sorts = sorts} {ks = ps} short small more) e stacks =
        let flags = neither (is_short sort) (list_any is_short sorts) e in
        absurd (let f = sym short ∙ flags.0 in cc)
    none_cut _ _ ks (an_int_passed {s = s} {sorts = sorts} {ks = ps} more) e stacks =
        one_below [] Int (Range s) sorts ps ks refl (an_int_passed more) (none_cut sorts ps (Range s ∷ ks) more e
        stacks)
    none_cut _ _ ks (a_reference_passed {shape = shape} {within = within} {sorts = sorts} {ks = ps} more) e stacks =
        one_below [] (Reference shape) (Refers within) sorts ps ks refl (a_reference_passed more)
        (none_cut sorts ps (Refers within ∷ ks) more e stacks)

    -- the last alone has
    top_cut : (type : Sort) (s : Span) (ks : List Kind) (xs ys : List Value) → xs ≡ vs → ys ≡ ws
        → is_short type ≡ true → PassesInt (type ∷ []) (Range s ∷ []) → StandAt code here (insns.Op 0x5E ∷ [])
        → IntStacks memory.heap (Range s ∷ ks) xs ys → Hands (insns.Op 0x5E ∷ []) (type ∷ []) (Range s ∷ []) ks
    unfolding meaning
    top_cut type s ks _ _ is_vs is_ws short (a_word_passed again small more) stand (number {x = x} {high = high}
        {low = low} {vs = under} {ws = below} e inside rest) =
        let y = low_word (spelt_by high low) in
        record {
          args = Num x ∷ [];
          under = under;
          handed = Num y ∷ [];
          below = below;
          nlocals = words;
          steps = 1;
          few = omega arith;
          by_name = sym is_vs;
          leads = ap (λ q. walk (by_label l) code 1 (spot here q words memory)) (sym is_ws)
              ∙ onward l code 0 here (here + 1) (insns.Op 0x5E) (Num low ∷ Num high ∷ below) (Num y ∷ below) words words
              memory memory _ stand.0 refl refl;
          agree = subst (λ z. AllHanded memory.heap (type ∷ []) (Range s ∷ []) (Num x ∷ []) (Num (low_word z) ∷ [])) e
              (one_more (one_word short (held_wider s (type_range type) x small inside) inside) nothing);
          rest = rest;
          locals_agree = h;
        }
    top_cut type s ks _ _ is_vs is_ws short (an_int_passed more) stand stacks = absurd cc

    last_cut : (sorts : List Sort) (ps ks : List Kind) → PassesInt sorts ps → is_by_scratch sorts ≡ false
        → list_any is_short sorts ≡ true → StandAt code here (insns.Op 0x5E ∷ [])
        → IntStacks memory.heap (onto ps ks) vs ws → Hands (insns.Op 0x5E ∷ []) sorts ps ks
    last_cut [] ps ks passes none some stand stacks = absurd cc
    last_cut (type ∷ other ∷ more) [] ks passes none some stand stacks = elim passes [ ]
    last_cut (type ∷ []) _ ks (a_word_passed {s = s} short small none_passed) none some stand stacks =
        top_cut type s ks vs ws refl refl short (a_word_passed short small none_passed) stand stacks
    last_cut (_ ∷ []) _ ks (an_int_passed none_passed) none some stand stacks = absurd cc
    last_cut (_ ∷ []) _ ks (a_reference_passed none_passed) none some stand stacks = absurd cc
    last_cut (type ∷ other ∷ more) (kind ∷ ps) ks passes none some stand stacks =
        let flags = neither (is_short type) (is_by_scratch (other ∷ more)) (sym (by_scratch_next type other more)
        ∙ none) in
        one_below (insns.Op 0x5E ∷ []) type kind (other ∷ more) ps ks flags.0 passes
        (last_cut (other ∷ more) ps (kind ∷ ks) (behind_first passes) flags.1
        (second_of (is_short type) (list_any is_short (other ∷ more)) some flags.0) stand stacks)
      where
        behind_first : {s : Sort} {k : Kind} {ss : List Sort} {ks : List Kind} → PassesInt (s ∷ ss) (k ∷ ks)
            → PassesInt ss ks
        behind_first (a_word_passed short small more) = more
        behind_first (an_int_passed more) = more
        behind_first (a_reference_passed more) = more

    -- ---- by scratch pairs

    all_by_scratch : (m_stack : ℕ) (sorts : List Sort) (ps ks : List Kind) → PassesInt sorts ps → length sorts ≤ pairs
        → HasIntRoom (length ps + length ks) m_stack code.max_stack
        → StandAt code here (put_aside f 0 sorts ++ taken_back f 0 sorts) → IntStacks memory.heap (onto ps ks) vs ws
        → Hands (put_aside f 0 sorts ++ taken_back f 0 sorts) sorts ps ks
    all_by_scratch m_stack sorts ps ks passes few room stand stacks =
        let front = put_aside f 0 sorts in let last = taken_back f 0 sorts in
        let p = all_put l f pairs ls code here vs ws locals words memory 0 sorts ps ks passes (omega (arith, few))
        (stand_front code here front last stand) h stacks in
        let tall = (heights p.rest).words in let a = room.by_name in let b = room.words in
        let size = passed_long passes in
        let q = all_back l f code p.nlocals memory (behind here front) 0 sorts ps p.args p.below passes p.aside
        (omega (arith, tall, a, b, size)) (stand_back code here front last stand) in
        let long = length-append front last in let few' = p.few in let few'' = q.few in
        record {
          args = p.args;
          under = p.under;
          handed = q.handed;
          below = p.below;
          nlocals = p.nlocals;
          steps = p.steps + q.steps;
          few = omega (arith, long, few', few'');
          by_name = p.by_name;
          leads = and_onward l code p.steps q.steps (spot here ws words memory) (spot (behind here front) p.below
              p.nlocals memory) _ p.leads (q.leads ∙ ap (λ o. Inside (spot o (onto q.handed p.below) p.nlocals memory))
              (sym (behind_both here front last)));
          agree = q.agree;
          rest = p.rest;
          locals_agree = p.locals_agree;
        }

    pub hands_over : (m_stack : ℕ) (sorts : List Sort) (ps ks : List Kind) → PassesInt sorts ps
        → (is_by_scratch sorts ≡ true → length sorts ≤ pairs)
        → HasIntRoom (length ps + length ks) m_stack code.max_stack → StandAt code here (handed_over f sorts)
        → IntStacks memory.heap (onto ps ks) vs ws → Hands (handed_over f sorts) sorts ps ks
    hands_over m_stack sorts ps ks passes few room stand stacks =
        by_flags (is_by_scratch sorts) refl (list_any is_short sorts) refl stand
      where
        by_flags : (b : Bool) → is_by_scratch sorts ≡ b → (c : Bool) → list_any is_short sorts ≡ c
            → StandAt code here (if b then put_aside f 0 sorts ++ taken_back f 0 sorts else (if c then insns.Op 0x5E
            ∷ [] else [])) → Hands (if b then put_aside f 0 sorts ++ taken_back f 0 sorts else (if c then insns.Op 0x5E
            ∷ [] else [])) sorts ps ks
        by_flags true b c some stand = all_by_scratch m_stack sorts ps ks passes (few b) room stand stacks
        by_flags false b true some stand = last_cut sorts ps ks passes b some stand stacks
        by_flags false b false some stand = none_cut sorts ps ks passes some stacks

-- ---- a call

module _ (by : Linked) (l : Named) (f : Frame) (pairs : ℕ) (r : Resolution) (m : Method) (b : Before) (op : ℕ)
    (id : MemberId) (callee : Callee) (types : Signature) (params : List Kind) (has_types : signature_of id.desc
    ≡ Some types) (names : Names r op id callee) (passes : PassesInt types.params params)
    (few : is_by_scratch types.params ≡ true → length types.params ≤ pairs) where
  -- the instruction that calls
  abbrev calls : NInsn
  calls = if op == jvm.invokeinterface then insns.Interface (nargs_of id) (r.interface id) else called r op id

  abbrev all_written : List NInsn
  all_written = handed_over f types.params ++ (calls ∷ widened_result types.result)

  called_by : (code : NMethod) (here : ℕ) → StandAt code here all_written →
      (at : ℕ) (ks ls : List Kind) (vs ws : List Value) (locals words : List (Option Value)) (store : Store)
      (memory : NMemory) → HasIntRoom (length params + length ks) m.max_stack code.max_stack
      → IntLocals memory.heap f pairs ls locals words → IntStacks memory.heap (onto params ks) vs ws →
      CallInStep l f pairs ls code here (behind here all_written) op id callee types.params params ks vs ws locals words
      memory types.result (effect by m at locals store (jop.Call op id) vs) (length all_written)
  unfolding effect
  called_by code here stand at ks ls vs ws locals words store memory room held stacks =
      let first = handed_over f types.params in
      let last = widened_result types.result in
      let h = hands_over l f pairs ls code here vs ws locals words memory held m.max_stack types.params params ks passes
      few
      room (stand_front code here first (calls ∷ last) stand) stacks in
      let there = stand_back code here first (calls ∷ last) stand in
      let place = behind here first in
      let long = length-append first (calls ∷ last) in let some = h.few in
      let p = behind_is here first in let q = behind_is here all_written in
      record {
        args = h.args;
        under = h.under;
        handed = h.handed;
        below = h.below;
        nlocals = h.nlocals;
        at = place;
        steps = h.steps + 1;
        few = omega (arith, some, long);
        from = omega (arith, p);
        before = omega (arith, p, q, long);
        is_call = refl;
        by_name = h.by_name;
        by_label = and_onward l code h.steps 1 (spot here ws words memory) (spot place (onto h.handed h.below) h.nlocals
            memory) _ h.leads (led_out l code 0 place calls (onto h.handed h.below) h.nlocals memory
            (narrow.Invoke callee) there.0 (ap (λ o. narrow.effect (classes l) o code.max_stack (place + 1) h.nlocals
            memory (onto h.handed h.below)) (call_does r op id callee names (λ o. 0) calls refl)) refl);
        agree = h.agree;
        rest = h.rest;
        locals_agree = h.locals_agree;
        then = there.1;
        ends = sym (behind_both here first (calls ∷ last));
      }

  pub int_call : IntCall by l f pairs r m b op id callee types params
  int_call place code here stand at ks ls vs ws locals words store memory room held stacks =
      subst (λ o. StandAt code here (called_with f r op id o) → CallInStep l f pairs ls code here
      (behind here (called_with f r op id o)) op id callee types.params params ks vs ws locals words memory types.result
      (effect by m at locals store (jop.Call op id) vs) (length (called_with f r op id o))) (sym has_types)
      (subst (λ list. StandAt code here list → CallInStep l f pairs ls code here (behind here list) op id callee
      types.params params ks vs ws locals words memory types.result (effect by m at locals store (jop.Call op id) vs)
      (length list)) (sym (append_assoc (handed_over f types.params) (calls ∷ []) (widened_result types.result)))
      (λ s. called_by code here s at ks ls vs ws locals words store memory room held stacks)) stand

-- ---- a result

pub onto_is : {A : Type 0} (xs ys : List A) → onto xs ys ≡ reverse xs ++ ys
onto_is [] ys = refl
onto_is (x ∷ xs) ys = onto_is xs (x ∷ ys) ∙ sym (append_assoc (reverse xs) (x ∷ []) ys)
    ∙ ap (λ zs. zs ++ ys) (sym (reverse-append (x ∷ []) xs))

pub result_taken : (l : Named) (code : NMethod) (here : ℕ) (ks : List Kind) (under below : List Value)
    (words : List (Option Value)) (memory : NMemory) (max_stack : ℕ) {sort : Option Sort} {kinds : List Kind}
    {value : Option Value} {result_words : List Value} → IntResults memory.heap sort kinds value result_words
    → HasIntRoom (length (kinds ++ ks)) max_stack code.max_stack → StandAt code here (widened_result sort)
    → IntStacks memory.heap ks under below
    → Resumed l code here (widened_result sort) kinds ks value result_words under below words memory
unfolding meaning
result_taken l code here ks under below words memory max_stack no_result room stand rest = record {
  stack = below;
  leads = refl;
  agree = rest;
}
result_taken l code here ks under below words memory max_stack (result {sort = sort} (one_word {s = s} {x = x} short
    small inside)) room stand rest =
    let y = low_word x in
    let same = is_word_of sort x short small in
    let list : widened sort ≡ insns.Op 0x5C ∷ [] = ap (λ b. if b then insns.Op 0x5C ∷ [] else []) short in
    let tall = (heights rest).words in let a = room.by_name in let b = room.words in
    subst (λ written. Resumed l code here written (Range s ∷ []) ks (Some (Num x)) (Num y ∷ []) under below words
    memory)
    (sym list) (record {
      stack = int_words y ++ below;
      leads = onward l code 0 here (here + 1) (insns.Op 0x5C) (Num y ∷ below) (int_words y ++ below) words words memory
          memory _ (subst (StandAt code here) list stand).0 (push_words (int_words y) code.max_stack (here + 1) below
          words
          memory (omega (arith, tall, a, b))) refl;
      agree = number (spelt_number x y (sym same) (word_is_int x)) inside rest;
    })
result_taken l code here ks under below words memory max_stack (result (two_words {high = high} {low = low} e inside))
    room
    stand rest = record { stack = Num low ∷ Num high ∷ below; leads = refl; agree = number e inside rest }
result_taken l code here ks under below words memory max_stack (result (as_it_is {v = v} refers)) room stand rest =
    record { stack = v ∷ below; leads = refl; agree = reference refers rest }
