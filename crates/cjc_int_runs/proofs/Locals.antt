-- Locals are read, written and increased alike.
use Rattle.std.proofs.Common.{◌≡◌, ℕ, zero, suc, ◌+◌, ◌<◌, List, ◌∷◌, [], length, refl, sym, ap, ◌∙◌}
use Rattle.std.proofs.Common.{arith}
use Rattle.std.proofs.Common.{Bool, true, false, ℤ, pos, ◌+ℤ◌, ◌*ℤ◌}
use Rattle.std.specs.Int.{w16, cast_unsigned}
use Rattle.std.specs.Prelude.{Option, Some, slice_get, slice_set, nat_le, nat_lt, ◌&&◌, if◌then◌else◌}
use Rattle.std.proofs.lemmas.Bool.Decides.{nat_tests}
use Rattle.std.proofs.lemmas.Int.{ints}
use Rattle.cjc_script.proofs.BytesGets.{get_inside}
use Rattle.cjc_range.specs.Words.{wide, low_word}
use Rattle.cjc_range.specs.Span.{Span, span, Holds, short_range}
use Rattle.cjc_range.specs.Rows.{add_row}
use Rattle.cjc_range.proofs.Spans.{add_holds}
use Rattle.cjc_range.proofs.WordsLaws.Words.{wide_ends}
use Rattle.cjc_int_proof.specs.Bytecode.declared.insn.JOp.TheVariants as jop
use Rattle.cjc_script.specs.declared.value.Value.{Value}
use Rattle.cjc_script.specs.declared.value.Value.TheVariants.{Num, Null, Obj}
use Rattle.cjc_script.specs.Sorts.{Shape}
use Rattle.cjc_card_semantics.specs.Bytecode.Calculations.{Fine, load_int, load_reference, store_int, store_if}
use Rattle.cjc_card_semantics.specs.Bytecode.Calculations.{is_reference, is_number, int_increased, int_set}
use Rattle.cjc_card_semantics.specs.Bytecode.Calculations
use Rattle.cjc_card_semantics.specs.Bytecode.Numbers.{high_word, spelt_by}
use Rattle.cjc_card_semantics.specs.Bytecode.Meanings.{meaning}
use Rattle.cjc_card_semantics.specs.Bytecode.Effects.{Do}
use Rattle.cjc_card_semantics.specs.Bytecode.Effects as narrow
use Rattle.cjc_ncode.specs.declared.narrow.NInsn.{NInsn}
use Rattle.cjc_ncode.specs.declared.narrow.NInsn.TheVariants as insns
use Rattle.cjc_ncode.specs.declared.narrow.NMethod.{NMethod}
use Rattle.cjc_ncode.specs.ByLabel.{Named, by_label, classes, operation}
use Rattle.cjc_ncode.specs.Written.{Resolution, is_byte}
use Rattle.cjc_ncode.specs.IntCode.IntCode.{Before, Frame, first_word}
use Rattle.cjc_jvm_semantics.specs.Linked.{Method, Linked}
use Rattle.cjc_jvm_semantics.specs.Effects.{Store, effect}
use Rattle.cjc_jvm_semantics.specs.Effects as by_name
use Rattle.cjc_int_proof.specs.Walks.{walk}
use Rattle.cjc_narrow_proof.specs.Selection.Relation.{Kind, Range, Refers, NMemory, Stores}
use Rattle.cjc_narrow_proof.specs.Selection.Rows.{NEffect}
use Rattle.cjc_int_runs.specs.Relation.{IntLocals, IntStacks, RefersTo, to_null, to_object, number, reference}
use Rattle.cjc_int_runs.specs.Steps.{IntRow, InStep, HasIntRoom, goes, spot}
use Rattle.cjc_int_runs.proofs.Spelling.{spelt_near}
use Rattle.cjc_int_runs.proofs.Stepping.{onward}
use Rattle.cjc_int_runs.proofs.Constants.{pushes}
use Rattle.cjc_int_runs.proofs.FrameWords.{number_held, reference_held, number_kept, reference_kept, locals_long}
use Rattle.cjc_int_runs.proofs.FrameWords.{two_set}

-- ---- what is written

-- the forms for words 0 to 3, and those for the others
iload_far : (n : ℕ) → nat_le n 3 ≡ false → operation (if nat_le n 3 then insns.Op (0x20 + n) else insns.Local 0x17 n)
    ≡ Do (load_int n)
unfolding meaning
iload_far n e = ap (λ b. operation (if b then insns.Op (0x20 + n) else insns.Local 0x17 n)) e

pub iload_is : (n : ℕ) → operation (if nat_le n 3 then insns.Op (0x20 + n) else insns.Local 0x17 n) ≡ Do (load_int n)
unfolding meaning
iload_is zero = refl
iload_is (suc zero) = refl
iload_is (suc (suc zero)) = refl
iload_is (suc (suc (suc zero))) = refl
iload_is (suc (suc (suc (suc n)))) = iload_far (suc (suc (suc (suc n))))
    (let e : nat_le (suc (suc (suc (suc n)))) 3 ≡ false = grind (arith, nat_tests) in e)

aload_far : (n : ℕ) → nat_le n 3 ≡ false → operation (if nat_le n 3 then insns.Op (0x18 + n) else insns.Local 0x15 n)
    ≡ Do (load_reference n)
unfolding meaning
aload_far n e = ap (λ b. operation (if b then insns.Op (0x18 + n) else insns.Local 0x15 n)) e

pub aload_is : (n : ℕ) → operation (if nat_le n 3 then insns.Op (0x18 + n) else insns.Local 0x15 n)
    ≡ Do (load_reference n)
unfolding meaning
aload_is zero = refl
aload_is (suc zero) = refl
aload_is (suc (suc zero)) = refl
aload_is (suc (suc (suc zero))) = refl
aload_is (suc (suc (suc (suc n)))) = aload_far (suc (suc (suc (suc n))))
    (let e : nat_le (suc (suc (suc (suc n)))) 3 ≡ false = grind (arith, nat_tests) in e)

istore_far : (n : ℕ) → nat_le n 3 ≡ false → operation (if nat_le n 3 then insns.Op (0x33 + n) else insns.Local 0x2A n)
    ≡ Do (store_int n)
unfolding meaning
istore_far n e = ap (λ b. operation (if b then insns.Op (0x33 + n) else insns.Local 0x2A n)) e

pub istore_is : (n : ℕ) → operation (if nat_le n 3 then insns.Op (0x33 + n) else insns.Local 0x2A n)
    ≡ Do (store_int n)
unfolding meaning
istore_is zero = refl
istore_is (suc zero) = refl
istore_is (suc (suc zero)) = refl
istore_is (suc (suc (suc zero))) = refl
istore_is (suc (suc (suc (suc n)))) = istore_far (suc (suc (suc (suc n))))
    (let e : nat_le (suc (suc (suc (suc n)))) 3 ≡ false = grind (arith, nat_tests) in e)

astore_far : (n : ℕ) → nat_le n 3 ≡ false → operation (if nat_le n 3 then insns.Op (0x2B + n) else insns.Local 0x28 n)
    ≡ Do (store_if is_reference n)
unfolding meaning
astore_far n e = ap (λ b. operation (if b then insns.Op (0x2B + n) else insns.Local 0x28 n)) e

pub astore_is : (n : ℕ) → operation (if nat_le n 3 then insns.Op (0x2B + n) else insns.Local 0x28 n)
    ≡ Do (store_if is_reference n)
unfolding meaning
astore_is zero = refl
astore_is (suc zero) = refl
astore_is (suc (suc zero)) = refl
astore_is (suc (suc (suc zero))) = refl
astore_is (suc (suc (suc (suc n)))) = astore_far (suc (suc (suc (suc n))))
    (let e : nat_le (suc (suc (suc (suc n)))) 3 ≡ false = grind (arith, nat_tests) in e)

iinc_is : (b : Bool) (n : ℕ) (z : ℤ) → operation (insns.Inc (if b then 0x5A else 0x97) n z)
    ≡ Do (int_increased (pos n ∷ z ∷ []))
unfolding meaning
iinc_is true n z = refl
iinc_is false n z = refl

-- ---- what it reads and writes

pub int_read : (k room : ℕ) (words : List (Option Value)) (ws : List Value) (high low : ℤ) → slice_get words k
    ≡ Some (Some (Num high)) → slice_get words (k + 1) ≡ Some (Some (Num low)) → load_int k room words ws
    ≡ Calculations.pushed (Num low ∷ Num high ∷ []) room words ws
int_read k room words ws high low e e' =
    ap (λ o. Calculations.set_local o (λ h. Calculations.set_local (slice_get words (k + 1))
    (λ l. Calculations.if_so (is_number h && is_number l) (Calculations.pushed (l ∷ h ∷ []) room words ws)))) e
    ∙ ap (λ o. Calculations.set_local o (λ l. Calculations.if_so (is_number (Num high) && is_number l)
    (Calculations.pushed (l ∷ Num high ∷ []) room words ws))) e'

-- where the second word is there
pub int_written : (k : ℕ) (words : List (Option Value)) (ws : List Value) (high low : ℤ) → k + 1 < length words
    → (room : ℕ) → store_int k room words (Num low ∷ Num high ∷ ws) ≡ Fine ws (two_set k high low words)
int_written k words ws high low lt room =
    let old = get_inside words (k + 1) lt in
    ap (λ o. Calculations.there o (Fine ws (two_set k high low words))) old.1

module _ (by : Linked) (l : Named) (f : Frame) (pairs : ℕ) (r : Resolution) (m : Method) (b : Before) (ls : List Kind)
    (n : ℕ) where
  pub iload : (s : Span) → slice_get ls n ≡ Some (Range s) → IntRow by l f pairs r m b (jop.Load false n) [] (Range s
      ∷ []) ls ls
  unfolding effect
  iload s has place code here is at ks vs ws locals words store memory before after stores held rest =
      let h = number_held held s n has in
      let k = first_word f n in
      pushes by l f pairs m ls code here at (Range s) ks (Num h.x) (Num h.low ∷ Num h.high ∷ []) vs ws locals words
      store memory (if nat_le k 3 then insns.Op (0x20 + k) else insns.Local 0x17 k) _ is.0
      (ap (λ o. narrow.effect (classes l) o code.max_stack (here + 1) words memory ws) (iload_is k)
      ∙ ap (λ q. let e : NEffect = narrow.effect_of_result q (here + 1) memory in e)
      (int_read k code.max_stack words ws h.high h.low h.high_word h.low_word))
      (ap (λ o. by_name.local_value o (λ v. by_name.only_if (by_name.is_kind false v) (by_name.push by m at locals store
      v vs))) h.by_name)
      after stores held rest (number h.spelt h.inside rest) (omega arith)

  -- a reference that is read
  loads_reference : (within : Shape (List ℕ) → Bool) (code : NMethod) (here at : ℕ) (ks : List Kind) (v : Value)
      (vs ws : List Value) (locals words : List (Option Value)) (store : Store) (memory : NMemory) (i : NInsn)
      → slice_get code.insns here ≡ Some i → operation i ≡ Do (load_reference (first_word f n))
      → slice_get locals n ≡ Some (Some v) → slice_get words (first_word f n) ≡ Some (Some v)
      → RefersTo memory.heap within v → HasIntRoom (length (Refers within ∷ ks)) m.max_stack code.max_stack
      → Stores l store memory → IntLocals memory.heap f pairs ls locals words → IntStacks memory.heap ks vs ws
      → InStep l f pairs (Refers within ∷ ks) ls here (here + 1) words memory (at + 1)
      (by_name.after_load by m at locals store true n vs) (λ n. walk (by_label l) code n (spot here ws words memory)) 1
  loads_reference within code here at ks _ vs ws locals words store memory i there means named word to_null after stores
      held rest =
      pushes by l f pairs m ls code here at (Refers within) ks Null (Null ∷ []) vs ws locals words store memory i _
      there
      (ap (λ o. narrow.effect (classes l) o code.max_stack (here + 1) words memory ws) means
      ∙ ap (λ o. let e : NEffect = narrow.effect_of_result (Calculations.set_local o (λ v. Calculations.if_so
      (is_reference v) (Calculations.pushed (v ∷ []) code.max_stack words ws))) (here + 1) memory in e) word)
      (ap (λ o. by_name.local_value o (λ v. by_name.only_if (by_name.is_kind true v) (by_name.push by m at locals store
      v
      vs))) named)
      after stores held rest (reference to_null rest) (omega arith)
  loads_reference within code here at ks _ vs ws locals words store memory i there means named word
      (to_object {k = k} thing is test) after stores held rest =
      pushes by l f pairs m ls code here at (Refers within) ks (Obj k) (Obj k ∷ []) vs ws locals words store memory i _
      there
      (ap (λ o. narrow.effect (classes l) o code.max_stack (here + 1) words memory ws) means
      ∙ ap (λ o. let e : NEffect = narrow.effect_of_result (Calculations.set_local o (λ v. Calculations.if_so
      (is_reference v) (Calculations.pushed (v ∷ []) code.max_stack words ws))) (here + 1) memory in e) word)
      (ap (λ o. by_name.local_value o (λ v. by_name.only_if (by_name.is_kind true v) (by_name.push by m at locals store
      v
      vs))) named)
      after stores held rest (reference (to_object thing is test) rest) (omega arith)

  pub aload : (within : Shape (List ℕ) → Bool) → slice_get ls n ≡ Some (Refers within)
      → IntRow by l f pairs r m b (jop.Load true n) [] (Refers within ∷ []) ls ls
  unfolding effect
  aload within has place code here is at ks vs ws locals words store memory before after stores held rest =
      let h = reference_held held within n has in
      let k = first_word f n in
      loads_reference within code here at ks h.v vs ws locals words store memory
      (if nat_le k 3 then insns.Op (0x18 + k) else insns.Local 0x15 k) is.0 (aload_is k) h.by_name h.word h.agree after
      stores held rest

  pub istore : (s : Span) → n < length ls → IntRow by l f pairs r m b (jop.Store false n) (Range s ∷ []) [] ls
      (slice_set ls n (Range s))
  unfolding effect
  istore s lt place code here is at ks _ _ locals words store memory before after stores held
      (number {x = x} {high = high} {low = low} {vs = vs} {ws = ws} e h rest) =
      let k = first_word f n in
      let long = locals_long held in let left = long.0 in let right = long.1 in
      let there : nat_lt n (length locals) ≡ true = grind (arith, nat_tests, left, lt) in
      goes (record {
        stack = vs;
        locals = slice_set locals n (Some (Num x));
        store = store;
        nstack = ws;
        nlocals = two_set k high low words;
        nmemory = memory;
        by_name = ap (λ t. by_name.only_if t (by_name.with_local by m at locals store n (Num x) vs)) there;
        steps = 1;
        few = omega arith;
        some = λ h. omega arith;
        by_label = onward l code 0 here (here + 1) (if nat_le k 3 then insns.Op (0x33 + k) else insns.Local 0x2A k)
            (Num low ∷ Num high ∷ ws) ws words (two_set k high low words) memory memory _ is.0
            (ap (λ o. narrow.effect (classes l) o code.max_stack (here + 1) words memory (Num low ∷ Num high ∷ ws))
            (istore_is k)
            ∙ ap (λ q. let e : NEffect = narrow.effect_of_result q (here + 1) memory in e)
            (int_written k words ws high low (omega (arith, right, lt)) code.max_stack)) refl;
        stacks_agree = rest;
        locals_agree = number_kept held high low n lt e h;
        stores_agree = stores;
      })

  stores_reference : (within : Shape (List ℕ) → Bool) → n < length ls → (code : NMethod) (here at : ℕ) (ks : List Kind)
      (v : Value) (vs ws : List Value) (locals words : List (Option Value)) (store : Store) (memory : NMemory)
      (i : NInsn) → slice_get code.insns here ≡ Some i → operation i ≡ Do (store_if is_reference (first_word f n))
      → by_name.is_kind true v ≡ true → is_reference v ≡ true
      → RefersTo memory.heap within v
      → Stores l store memory → IntLocals memory.heap f pairs ls locals words → IntStacks memory.heap ks vs ws
      → InStep l f pairs ks (slice_set ls n (Refers within)) here (here + 1) words memory (at + 1)
      (by_name.after_store by m at locals store true n (v ∷ vs)) (λ n. walk (by_label l) code n (spot here (v ∷ ws)
      words memory)) 1
  stores_reference within lt code here at ks v vs ws locals words store memory i there means kind kind' agree stores
      held rest =
      let k = first_word f n in
      let long = locals_long held in let left = long.0 in let right = long.1 in
      let inside : nat_lt n (length locals) ≡ true = grind (arith, nat_tests, left, lt) in
      let old = get_inside words k (omega (arith, right, lt)) in
      goes (record {
        stack = vs;
        locals = slice_set locals n (Some v);
        store = store;
        nstack = ws;
        nlocals = slice_set words k (Some v);
        nmemory = memory;
        by_name = ap (λ t. by_name.only_if (t && nat_lt n (length locals)) (by_name.with_local by m at locals store n v
            vs)) kind ∙ ap (λ t. by_name.only_if t (by_name.with_local by m at locals store n v vs)) inside;
        steps = 1;
        few = omega arith;
        some = λ h. omega arith;
        by_label = onward l code 0 here (here + 1) i (v ∷ ws) ws words (slice_set words k (Some v)) memory memory _
            there
            (ap (λ o. narrow.effect (classes l) o code.max_stack (here + 1) words memory (v ∷ ws)) means
            ∙ ap (λ t. let e : NEffect = narrow.effect_of_result (Calculations.if_so t (Calculations.there
            (slice_get words k) (Fine ws (slice_set words k (Some v))))) (here + 1) memory in e) kind'
            ∙ ap (λ o. let e : NEffect = narrow.effect_of_result (Calculations.there o
            (Fine ws (slice_set words k (Some v)))) (here + 1) memory in e) old.1) refl;
        stacks_agree = rest;
        locals_agree = reference_kept held n lt agree;
        stores_agree = stores;
      })

  pub astore : (within : Shape (List ℕ) → Bool) → n < length ls → IntRow by l f pairs r m b (jop.Store true n)
      (Refers within ∷ []) [] ls (slice_set ls n (Refers within))
  unfolding effect
  astore within lt place code here is at ks _ _ locals words store memory before after stores held
      (reference {vs = vs} {ws = ws} to_null rest) =
      let k = first_word f n in
      stores_reference within lt code here at ks Null vs ws locals words store memory
      (if nat_le k 3 then insns.Op (0x2B + k) else insns.Local 0x28 k) is.0 (astore_is k) refl refl to_null stores held
      rest
  astore within lt place code here is at ks _ _ locals words store memory before after stores held
      (reference {vs = vs} {ws = ws} (to_object {k = j} thing is' test) rest) =
      let k = first_word f n in
      stores_reference within lt code here at ks (Obj j) vs ws locals words store memory
      (if nat_le k 3 then insns.Op (0x2B + k) else insns.Local 0x28 k) is.0 (astore_is k) refl refl
      (to_object thing is' test) stores held rest

  -- ---- iinc

  -- a number that one span holds
  itself : (z : ℤ) → Holds (span z z) z
  itself z = record { above = omega (arith, ints); below = omega (arith, ints) }

  pub iinc : (s : Span) (z : ℤ) → slice_get ls n ≡ Some (Range s) → n < length ls → Holds short_range z
      → IntRow by l f pairs r m b (jop.Inc n z) [] [] ls (slice_set ls n (Range (add_row s (span z z))))
  unfolding effect
  iinc s z has lt small place code here is at ks vs ws locals words store memory before after stores held rest =
      let h = number_held held s n has in
      let k = first_word f n in
      let sum = spelt_by h.high h.low +ℤ z in
      let ends = wide_ends ((h.high *ℤ pos 65536) +ℤ pos (cast_unsigned w16 h.low)) in
      let a = ends.0 in let c = ends.1 in let p = small.above in let q = small.below in
      goes (record {
        stack = vs;
        locals = slice_set locals n (Some (Num (wide (h.x +ℤ z))));
        store = store;
        nstack = ws;
        nlocals = int_set k sum words;
        nmemory = memory;
        by_name = ap (λ o. by_name.local_value o (λ v. by_name.after_increase by m at locals store n z v vs)) h.by_name;
        steps = 1;
        few = omega arith;
        some = λ h. omega arith;
        by_label = onward l code 0 here (here + 1) (insns.Inc (if is_byte z then 0x5A else 0x97) k z) ws ws words
            (int_set k sum words) memory memory _ is.0
            (ap (λ o. narrow.effect (classes l) o code.max_stack (here + 1) words memory ws) (iinc_is (is_byte z) k z)
            ∙ ap (λ o. let e : NEffect = narrow.effect_of_result (Calculations.number_in o (λ high.
            Calculations.number_in (slice_get words (k + 1)) (λ low. Fine ws (int_set k (spelt_by high low +ℤ z)
            words))))
            (here + 1) memory in e) h.high_word
            ∙ ap (λ o. let e : NEffect = narrow.effect_of_result (Calculations.number_in o (λ low.
            Fine ws (int_set k (spelt_by h.high low +ℤ z) words))) (here + 1) memory in e) h.low_word) refl;
        stacks_agree = rest;
        locals_agree = number_kept held (high_word sum) (low_word sum) n lt (ap (λ x. wide (x +ℤ z)) h.spelt
            ∙ sym (spelt_near sum (omega (arith, ints, a, p)) (omega (arith, ints, c, q))))
            (add_holds s (span z z) h.x z h.inside (itself z));
        stores_agree = stores;
      })
