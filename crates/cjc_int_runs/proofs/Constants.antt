-- Null and numbers are pushed alike.
use Rattle.std.proofs.Common.{◌≡◌, ℕ, zero, suc, ◌+◌, ◌≤◌, List, ◌∷◌, [], ◌++◌, length, refl, ap, ◌∙◌}
use Rattle.std.proofs.Common.{arith, ℤ, pos, negsuc}
use Rattle.std.proofs.Common.{Bool, true, false}
use Rattle.std.specs.Prelude.{Option, Some, slice_get, nat_le, ◌==◌, if◌then◌else◌}
use Rattle.std.proofs.lemmas.Bool.Decides.{nat_tests}
use Rattle.cjc_range.specs.Span.{Span, Holds, full}
use Rattle.cjc_range.proofs.Spans.{fits_word}
use Rattle.cjc_int_proof.specs.Bytecode.declared.insn.JOp.TheVariants as jop
use Rattle.cjc_script.specs.declared.value.Value.{Value}
use Rattle.cjc_script.specs.declared.value.Value.TheVariants.{Num, Null}
use Rattle.cjc_script.specs.Sorts.{Shape}
use Rattle.cjc_card_semantics.specs.Bytecode.Calculations.{int_words}
use Rattle.cjc_card_semantics.specs.Bytecode.Calculations
use Rattle.cjc_card_semantics.specs.Bytecode.Meanings.{meaning}
use Rattle.cjc_card_semantics.specs.Bytecode.Effects.{Do}
use Rattle.cjc_card_semantics.specs.Bytecode.Effects as narrow
use Rattle.cjc_ncode.specs.declared.narrow.NInsn.{NInsn}
use Rattle.cjc_ncode.specs.declared.narrow.NInsn.TheVariants as insns
use Rattle.cjc_ncode.specs.declared.narrow.NMethod.{NMethod}
use Rattle.cjc_ncode.specs.ByLabel.{Named, by_label, classes, operation}
use Rattle.cjc_ncode.specs.Written.{Resolution}
use Rattle.cjc_ncode.specs.IntCode.IntCode.{Before, Frame, pushed}
use Rattle.cjc_jvm_semantics.specs.Linked.{Method, Linked}
use Rattle.cjc_jvm_semantics.specs.Effects.{Store, effect}
use Rattle.cjc_jvm_semantics.specs.Effects as by_name
use Rattle.cjc_int_proof.specs.Walks.{walk}
use Rattle.cjc_narrow_proof.specs.Selection.Relation.{Kind, Range, Refers, NMemory, Stores}
use Rattle.cjc_int_runs.specs.Relation.{IntLocals, IntStacks, to_null, number, reference}
use Rattle.cjc_int_runs.specs.Steps.{IntRow, InStep, HasIntRoom, goes, spot}
use Rattle.cjc_int_runs.proofs.Spelling.{spelt_number}
use Rattle.cjc_int_runs.proofs.Stepping.{onward, heights, push_named, push_words}

-- one instruction pushes the words of a value
pub pushes : (by : Linked) (l : Named) (f : Frame) (pairs : ℕ) (m : Method) (ls : List Kind) (code : NMethod) (here at :
    ℕ) (k : Kind) (ks : List Kind) (v : Value) (new vs ws : List Value) (locals words : List (Option Value))
    (store : Store) (memory : NMemory) (i : NInsn) (e : by_name.Effect) → slice_get code.insns here ≡ Some i
    → narrow.effect (classes l) (operation i) code.max_stack (here + 1) words memory ws
    ≡ narrow.effect_of_result (Calculations.pushed new code.max_stack words ws) (here + 1) memory
    → e ≡ by_name.push by m at locals store v vs
    → HasIntRoom (length (k ∷ ks)) m.max_stack code.max_stack → Stores l store memory
    → IntLocals memory.heap f pairs ls locals words → IntStacks memory.heap ks vs ws
    → IntStacks memory.heap (k ∷ ks) (v ∷ vs) (new ++ ws) → length new ≤ 2
    → InStep l f pairs (k ∷ ks) ls here (here + 1) words memory (at + 1) e
    (λ n. walk (by_label l) code n (spot here ws words memory)) 1
pushes by l f pairs m ls code here at k ks v new vs ws locals words store memory i e there does named after stores held
    rest all few =
    let h = heights all in let h' = heights rest in
    let a = h.by_name in let c = h'.by_name in let d = h.words in let p = after.by_name in let q = after.words in
    goes (record {
      stack = v ∷ vs;
      locals = locals;
      store = store;
      nstack = new ++ ws;
      nlocals = words;
      nmemory = memory;
      by_name = named ∙ push_named by m at locals store v vs (omega (arith, a, c, p));
      steps = 1;
      few = omega arith;
      some = λ h. omega arith;
      by_label = onward l code 0 here (here + 1) i ws (new ++ ws) words words memory memory _ there
          (does ∙ push_words new code.max_stack (here + 1) ws words memory (omega (arith, d, p, q))) refl;
      stacks_agree = all;
      locals_agree = held;
      stores_agree = stores;
    })

-- ---- numbers

-- a number without an opcode of its own
three_forms : (z : ℤ) (b c : Bool) → operation (if b then insns.Push 0x12 z else (if c then insns.Push 0x13 z
    else insns.Push 0x14 z)) ≡ Do (Calculations.pushed (int_words z))
unfolding meaning
three_forms z true c = refl
three_forms z false true = refl
three_forms z false false = refl

far_number : (n : ℕ) → nat_le n 5 ≡ false → operation (pushed (pos n)) ≡ Do (Calculations.pushed (int_words (pos n)))
far_number n e = ap (λ b. operation (if b then insns.Op (0x0A + n) else (if nat_le n 127 then insns.Push 0x12 (pos n)
    else (if nat_le n 32767 then insns.Push 0x13 (pos n) else insns.Push 0x14 (pos n))))) e
    ∙ three_forms (pos n) (nat_le n 127) (nat_le n 32767)

number_below : (n : ℕ) → (n == 0) ≡ false → operation (pushed (negsuc n))
    ≡ Do (Calculations.pushed (int_words (negsuc n)))
number_below n e = ap (λ b. operation (if b then insns.Op 0x09 else (if nat_le n 127 then insns.Push 0x12 (negsuc n)
    else (if nat_le n 32767 then insns.Push 0x13 (negsuc n) else insns.Push 0x14 (negsuc n))))) e
    ∙ three_forms (negsuc n) (nat_le n 127) (nat_le n 32767)

-- the instruction of a number pushes its two words
pub number_is : (z : ℤ) → operation (pushed z) ≡ Do (Calculations.pushed (int_words z))
unfolding meaning
number_is (pos zero) = refl
number_is (pos (suc zero)) = refl
number_is (pos (suc (suc zero))) = refl
number_is (pos (suc (suc (suc zero)))) = refl
number_is (pos (suc (suc (suc (suc zero))))) = refl
number_is (pos (suc (suc (suc (suc (suc zero)))))) = refl
number_is (pos (suc (suc (suc (suc (suc (suc n))))))) = far_number (suc (suc (suc (suc (suc (suc n))))))
    (let e : nat_le (suc (suc (suc (suc (suc (suc n)))))) 5 ≡ false = grind (arith, nat_tests) in e)
number_is (negsuc zero) = refl
number_is (negsuc (suc n)) = number_below (suc n) (let e : (suc n == 0) ≡ false = grind (arith, nat_tests) in e)

module _ (by : Linked) (l : Named) (f : Frame) (pairs : ℕ) (r : Resolution) (m : Method) (b : Before) (ls : List Kind)
  where
    pub aconst_null : (within : Shape (List ℕ) → Bool) → IntRow by l f pairs r m b jop.Null [] (Refers within ∷ []) ls
        ls
    unfolding effect meaning
    aconst_null within place code here is at ks vs ws locals words store memory before after stores held rest =
        pushes by l f pairs m ls code here at (Refers within) ks Null (Null ∷ []) vs ws locals words store memory
        (insns.Op 0x01) _ is.0 refl refl after stores held rest (reference to_null rest) (omega arith)

    pub constant : (z : ℤ) (s : Span) → Holds full z → Holds s z → IntRow by l f pairs r m b (jop.Number z) [] (Range s
        ∷ []) ls ls
    unfolding effect
    constant z s small inside place code here is at ks vs ws locals words store memory before after stores held rest =
        pushes by l f pairs m ls code here at (Range s) ks (Num z) (int_words z) vs ws locals words store memory
        (pushed z) _ is.0 (ap (λ o. narrow.effect (classes l) o code.max_stack (here + 1) words memory ws) (number_is
        z))
        refl after stores held rest (number (spelt_number z z refl (fits_word z small)) inside rest) (omega arith)

-- ---- nothing

-- nothing is written for nop
pub nothing : (by : Linked) (l : Named) (f : Frame) (pairs : ℕ) (r : Resolution) (m : Method) (b : Before) (ls :
    List Kind) → IntRow by l f pairs r m b jop.Nop [] [] ls ls
unfolding effect
nothing by l f pairs r m b ls place code here is at ks vs ws locals words store memory before after stores held rest =
    goes (record {
      stack = vs;
      locals = locals;
      store = store;
      nstack = ws;
      nlocals = words;
      nmemory = memory;
      steps = 0;
      few = omega arith;
      some = λ h. h;
      by_name = refl;
      by_label = refl;
      stacks_agree = rest;
      locals_agree = held;
      stores_agree = stores;
    })
