-- Returns give results that agree.
use Rattle.std.proofs.Common.{◌≡◌, ℕ, ◌+◌, List, ◌∷◌, [], length, refl, sym, ap, subst, arith}
use Rattle.std.proofs.Common.{Bool, true}
use Rattle.std.specs.Prelude.{Option, Some, None, slice_get}
use Rattle.cjc_range.specs.Words.{low_word}
use Rattle.cjc_range.specs.Span.{Span, Within}
use Rattle.cjc_range.proofs.Order.{held_wider}
use Rattle.cjc_int_proof.specs.Bytecode.declared.insn.JOp.TheVariants as jop
use Rattle.cjc_script.specs.declared.value.Value.{Value}
use Rattle.cjc_script.specs.declared.value.Value.TheVariants.{Num, Null, Obj}
use Rattle.cjc_script.specs.Sorts.{Shape, Sort, Boolean, Byte, Short, Int, Reference, NoValue}
use Rattle.cjc_card_semantics.specs.Bytecode.Numbers.{spelt_by}
use Rattle.cjc_card_semantics.specs.Bytecode.Meanings.{meaning}
use Rattle.cjc_card_semantics.specs.Bytecode.Effects as narrow
use Rattle.cjc_ncode.specs.declared.narrow.NInsn.TheVariants as insns
use Rattle.cjc_ncode.specs.declared.narrow.NMethod.{NMethod}
use Rattle.cjc_ncode.specs.ByLabel.{Named, by_label}
use Rattle.cjc_ncode.specs.Written.{Resolution}
use Rattle.cjc_ncode.specs.IntCode.IntCode.{Before, Frame, is_short, returned}
use Rattle.cjc_jvm_semantics.specs.Linked.{Method, Linked}
use Rattle.cjc_jvm_semantics.specs.Effects.{Store, effect}
use Rattle.cjc_int_proof.specs.Walks.{walk}
use Rattle.cjc_narrow_proof.specs.Selection.Relation.{Kind, Range, Refers, NMemory}
use Rattle.cjc_int_runs.specs.Relation.{IntStacks, to_null, to_object, number, reference, one_word, two_words, as_it_is}
use Rattle.cjc_int_runs.specs.Relation.{type_range}
use Rattle.cjc_int_runs.specs.Steps.{IntReturn, IntResults, LeavesInStep, StandAt, no_result, result, spot}
use Rattle.cjc_int_runs.proofs.Stepping.{onward, led_out}

module _ (by : Linked) (l : Named) (m : Method) where
  -- what is written for a return of a number, by the type of the method's result
  abbrev GivesNumber : Option Sort → Span → Type 0
  GivesNumber o s =
      (code : NMethod) (here : ℕ) → StandAt code here (returned o) →
      (at : ℕ) (ks : List Kind) (vs ws : List Value) (locals words : List (Option Value)) (store : Store)
      (memory : NMemory) → IntStacks memory.heap (Range s ∷ ks) vs ws
      → LeavesInStep memory.heap o (Range s ∷ []) words memory (effect by m at locals store (jop.Return 0xAC) vs)
      (λ n. walk (by_label l) code n (spot here ws words memory)) (length (returned o))

  gives_int : (s : Span) → GivesNumber (Some Int) s
  unfolding effect meaning
  gives_int s code here is at ks _ _ locals words store memory (number {x = x} {high = high} {low = low} {ws = ws} ex hx
      rest) = record {
        value = Some (Num x);
        result_words = Num high ∷ Num low ∷ [];
        at = here;
        behind = here + 1;
        nstack = Num low ∷ Num high ∷ ws;
        by_name = refl;
        steps = 1;
        few = omega arith;
        by_label = led_out l code 0 here (insns.Op 0x79) (Num low ∷ Num high ∷ ws) words memory
            (narrow.Leave (Num high ∷ Num low ∷ [])) is.0 refl refl;
        results = result (two_words ex hx);
      }

  -- i2s and sreturn
  gives_word : (sort : Sort) (s : Span) → is_short sort ≡ true → Within s (type_range sort) → (code : NMethod) (here :
      ℕ) → slice_get code.insns here
      ≡ Some (insns.Op 0x5E) → slice_get code.insns (here + 1) ≡ Some (insns.Op 0x78) → (at : ℕ) (ks : List Kind)
      (vs ws : List Value) (locals words : List (Option Value)) (store : Store) (memory : NMemory)
      → IntStacks memory.heap (Range s ∷ ks) vs ws
      → LeavesInStep memory.heap (Some sort) (Range s ∷ []) words memory (effect by m at locals store (jop.Return 0xAC)
      vs) (λ n. walk (by_label l) code n (spot here ws words memory)) 2
  unfolding effect meaning
  gives_word sort s short small code here there then_there at ks _ _ locals words store memory (number {x = x} {high =
      high}
      {low = low} {ws = ws} ex hx rest) =
      let y = low_word (spelt_by high low) in
      let same : low_word x ≡ y = ap low_word ex in
      record {
        value = Some (Num x);
        result_words = Num y ∷ [];
        at = here + 1;
        behind = here + 1 + 1;
        nstack = Num y ∷ ws;
        by_name = refl;
        steps = 2;
        few = omega arith;
        by_label = onward l code 1 here (here + 1) (insns.Op 0x5E) (Num low ∷ Num high ∷ ws) (Num y ∷ ws) words words
            memory memory _ there refl (led_out l code 0 (here + 1) (insns.Op 0x78) (Num y ∷ ws) words memory
            (narrow.Leave (Num y ∷ [])) then_there refl refl);
        results = subst (λ z. IntResults memory.heap (Some sort) (Range s ∷ []) (Some (Num x)) (Num z ∷ [])) same
            (result (one_word short (held_wider s (type_range sort) x small hx) hx));
      }

  gives_short : (sort : Sort) (s : Span) → is_short sort ≡ true → Within s (type_range sort) → GivesNumber (Some sort) s
  gives_short Boolean s short small code here is at ks vs ws locals words store memory stacks =
      gives_word Boolean s short small code here is.0 is.1.0 at ks vs ws locals words store memory stacks
  gives_short Byte s short small code here is at ks vs ws locals words store memory stacks =
      gives_word Byte s short small code here is.0 is.1.0 at ks vs ws locals words store memory stacks
  gives_short Short s short small code here is at ks vs ws locals words store memory stacks =
      gives_word Short s short small code here is.0 is.1.0 at ks vs ws locals words store memory stacks
  gives_short Int s short small code here is at ks vs ws locals words store memory stacks = absurd cc
  gives_short (Reference shape) s short small code here is at ks vs ws locals words store memory stacks = absurd cc
  gives_short NoValue s short small code here is at ks vs ws locals words store memory stacks = absurd cc

module _ (by : Linked) (l : Named) (f : Frame) (r : Resolution) (m : Method) (b : Before) where
  pub int_returned : (s : Span) → f.result ≡ Some Int → IntReturn by l f r m b (jop.Return 0xAC) (Range s ∷ [])
  int_returned s is place = subst (λ o. GivesNumber by l m o s) (sym is) (gives_int by l m s)

  pub short_returned : (sort : Sort) (s : Span) → f.result ≡ Some sort → is_short sort ≡ true
      → Within s (type_range sort)
      → IntReturn by l f r m b (jop.Return 0xAC) (Range s ∷ [])
  short_returned sort s is short small place = subst (λ o. GivesNumber by l m o s) (sym is) (gives_short by l m sort s
      short small)

  pub reference_returned : (shape : Shape (List ℕ)) (within : Shape (List ℕ) → Bool) → f.result ≡ Some (Reference shape)
      → IntReturn by l f r m b (jop.Return 0xB0) (Refers within ∷ [])
  unfolding effect meaning
  reference_returned shape within is place code here stand at ks _ _ locals words store memory (reference {ws = ws}
      to_null rest) = record {
        value = Some Null;
        result_words = Null ∷ [];
        at = here;
        behind = here + 1;
        nstack = Null ∷ ws;
        by_name = refl;
        steps = 1;
        few = omega arith;
        by_label = led_out l code 0 here (insns.Op 0x77) (Null ∷ ws) words memory (narrow.Leave (Null ∷ [])) stand.0
            refl
            refl;
        results = subst (λ o. IntResults memory.heap o (Refers within ∷ []) (Some Null) (Null ∷ [])) (sym is)
            (result (as_it_is to_null));
      }
  reference_returned shape within is place code here stand at ks _ _ locals words store memory (reference {ws = ws}
      (to_object {k = k} thing there test) rest) = record {
        value = Some (Obj k);
        result_words = Obj k ∷ [];
        at = here;
        behind = here + 1;
        nstack = Obj k ∷ ws;
        by_name = refl;
        steps = 1;
        few = omega arith;
        by_label = led_out l code 0 here (insns.Op 0x77) (Obj k ∷ ws) words memory (narrow.Leave (Obj k ∷ [])) stand.0
            refl
            refl;
        results = subst (λ o. IntResults memory.heap o (Refers within ∷ []) (Some (Obj k)) (Obj k ∷ [])) (sym is)
            (result (as_it_is (to_object thing there test)));
      }

  pub nothing_returned : f.result ≡ None → IntReturn by l f r m b (jop.Return 0xB1) []
  unfolding effect meaning
  nothing_returned is place code here stand at ks vs ws locals words store memory stacks = record {
    value = None;
    result_words = [];
    at = here;
    behind = here + 1;
    nstack = ws;
    by_name = refl;
    steps = 1;
    few = omega arith;
    by_label = led_out l code 0 here (insns.Op 0x7A) ws words memory (narrow.Leave []) stand.0 refl refl;
    results = subst (λ o. IntResults memory.heap o [] None []) (sym is) no_result;
  }
