-- Arithmetic on numbers of two words gives what it gives by name.
use Rattle.std.proofs.Common.{◌≡◌, ◌≢◌, ℕ, zero, suc, ◌+◌, ◌^◌, List, ◌∷◌, [], ◌++◌, length, refl, sym, ap}
use Rattle.std.proofs.Common.{◌∙◌, arith}
use Rattle.std.proofs.Common.{ℤ, pos, negsuc, neg_ℤ, ◌+ℤ◌, ◌-ℤ◌, ◌*ℤ◌}
use Rattle.std.specs.Prelude.{Option, Some, slice_get, int_div, int_rem, FitsSigned, if◌then◌else◌}
use Rattle.std.specs.Int.{w32, int_shr, int_bit_and, int_bit_or, int_bit_xor}
use Rattle.cjc_range.specs.Words.{wide, low_word, low_byte, shift_distance, unsigned_shift}
use Rattle.cjc_range.specs.Span.{Span, Holds, IsWord}
use Rattle.cjc_range.specs.Rows.{add_row, sub_row, mul_row, neg_row, div_row, rem_row, shl_row, shr_row, ushr_row}
use Rattle.cjc_range.specs.Rows.{and_row, or_row, to_byte_row, to_short_row}
use Rattle.cjc_range.proofs.Spans.{add_holds, sub_holds, mul_holds, neg_holds, div_holds, rem_holds, shl_holds}
use Rattle.cjc_range.proofs.Spans.{shr_holds, ushr_holds, to_byte_holds, to_short_holds}
use Rattle.cjc_range.proofs.Bits.{word_fits, and_holds, or_holds, xor_holds, and_row_fits, or_row_fits}
use Rattle.cjc_range.proofs.Order.{rem_word, shr_word}
use Rattle.cjc_range.proofs.OrderBits.{and_word, or_word, ushr_word}
use Rattle.cjc_int_proof.specs.Bytecode.declared.insn.JOp.TheVariants as jop
use Rattle.cjc_script.specs.declared.value.Value.{Value}
use Rattle.cjc_script.specs.declared.value.Value.TheVariants.{Num}
use Rattle.cjc_card_semantics.specs.Bytecode.Calculations.{Fails, Fine, int_binary, int_divided, int_words}
use Rattle.cjc_card_semantics.specs.Bytecode.Calculations
use Rattle.cjc_card_semantics.specs.Bytecode.Numbers.{spelt_by, is_zero}
use Rattle.cjc_card_semantics.specs.Bytecode.Meanings.{meaning}
use Rattle.cjc_card_semantics.specs.Bytecode.Effects.{Do}
use Rattle.cjc_card_semantics.specs.Bytecode.Effects as narrow
use Rattle.cjc_ncode.specs.declared.narrow.NInsn.TheVariants as insns
use Rattle.cjc_ncode.specs.declared.narrow.NMethod.{NMethod}
use Rattle.cjc_ncode.specs.ByLabel.{Named, by_label, classes, operation}
use Rattle.cjc_ncode.specs.Written.{Resolution, arithmetic}
use Rattle.cjc_ncode.specs.IntCode.IntCode.{Before, Frame}
use Rattle.cjc_jvm_semantics.specs.Arithmetic.{Gives, Divides}
use Rattle.cjc_jvm_semantics.specs.Linked.{Method, Linked}
use Rattle.cjc_jvm_semantics.specs.Effects.{Store, effect, after_operation}
use Rattle.cjc_jvm_semantics.specs.Effects as by_name
use Rattle.cjc_int_proof.specs.Walks.{walk}
use Rattle.cjc_narrow_proof.specs.Selection.Relation.{Kind, Range, NMemory, Stores}
use Rattle.cjc_narrow_proof.specs.Selection.Rows.{NEffect}
use Rattle.cjc_narrow_proof.proofs.SelectionLaws.Plain.{held_wide}
use Rattle.cjc_int_runs.specs.Relation.{IntLocals, IntStacks, number}
use Rattle.cjc_int_runs.specs.Steps.{IntRow, InStep, HasIntRoom, goes, raises, spot}
use Rattle.cjc_int_runs.proofs.Spelling.{spelt_result, spelt_number, word_is_int, byte_is_int}
use Rattle.cjc_int_runs.proofs.Stepping.{onward, raised, asked, heights, push_words}

module _ (by : Linked) (l : Named) (f : Frame) (pairs : ℕ) (r : Resolution) (m : Method) (b : Before) (ls : List Kind)
    (s t : Span) where
  -- an operation on two numbers
  abbrev Two : (op : ℕ) → (result : Span) → Type 0
  Two op result = IntRow by l f pairs r m b (jop.Arith op) (Range t ∷ Range s ∷ []) (Range result ∷ []) ls ls

  -- what is asked by name
  abbrev Asks : (op : ℕ) → (List Value → (at : ℕ) → List (Option Value) → Store → by_name.Effect) → Type 0
  Asks op does = (at : ℕ) (locals : List (Option Value)) (store : Store) (vs : List Value)
      → effect by m at locals store (jop.Arith op) vs ≡ does vs at locals store

  gives : (op : ℕ) (exact : ℤ → ℤ → ℤ) (result : Span)
      → Asks op (λ vs at locals store. after_operation by m at locals store (Gives exact) vs)
      → operation (insns.Op (arithmetic op + 1)) ≡ Do (int_binary exact [])
      → ((x y : ℤ) → Holds s x → Holds t y → Holds result (wide (exact x y))) → Two op result
  gives op exact result named means holds place code here is at ks _ _ locals words store memory before after stores
      held (number {x = y} {high = high'} {low = low'} {ws = _} ey hy
      (number {x = x} {high = high} {low = low} {vs = vs} {ws = ws} ex hx rest)) =
      let sum = ap (λ a. wide (exact a y)) ex ∙ ap (λ c. wide (exact (spelt_by high low) c)) ey in
      let z = exact (spelt_by high low) (spelt_by high' low') in
      goes (record {
        stack = Num (wide (exact x y)) ∷ vs;
        locals = locals;
        store = store;
        nstack = int_words (wide z) ++ ws;
        nlocals = words;
        nmemory = memory;
        by_name = named at locals store (Num y ∷ Num x ∷ vs);
        steps = 1;
        few = omega arith;
        some = λ h. omega arith;
        by_label = onward l code 0 here (here + 1) (insns.Op (arithmetic op + 1)) (Num low' ∷ Num high' ∷ Num low
            ∷ Num high ∷ ws) (int_words (wide z) ++ ws) words words memory memory _ is.0
            (ap (λ o. narrow.effect (classes l) o code.max_stack (here + 1) words memory (Num low' ∷ Num high'
            ∷ Num low ∷ Num high ∷ ws)) means) refl;
        stacks_agree = number (spelt_result (wide (exact x y)) z sum) (holds x y hx hy) rest;
        locals_agree = held;
        stores_agree = stores;
      })

  pub iadd : Two 0x60 (add_row s t)
  unfolding effect meaning
  iadd = gives 0x60 (λ x y. x +ℤ y) (add_row s t) (λ at locals store vs. refl) refl (add_holds s t)

  pub isub : Two 0x64 (sub_row s t)
  unfolding effect meaning
  isub = gives 0x64 (λ x y. x -ℤ y) (sub_row s t) (λ at locals store vs. refl) refl (sub_holds s t)

  pub imul : Two 0x68 (mul_row s t)
  unfolding effect meaning
  imul = gives 0x68 (λ x y. x *ℤ y) (mul_row s t) (λ at locals store vs. refl) refl (mul_holds s t)

  pub ishl : Two 0x78 (shl_row s t)
  unfolding effect meaning
  ishl = gives 0x78 (λ x d. x *ℤ pos (2 ^ shift_distance d)) (shl_row s t) (λ at locals store vs. refl) refl
      (shl_holds s t)

  pub ishr : IsWord s → IsWord t → Two 0x7A (shr_row s t)
  unfolding effect meaning
  ishr w w' = gives 0x7A (λ x d. int_shr x (shift_distance d)) (shr_row s t) (λ at locals store vs. refl) refl
      (λ x y hx hy. held_wide (shr_row s t) (int_shr x (shift_distance y)) (shr_word s t w w')
      (shr_holds s t x y hx hy))

  pub iushr : IsWord s → IsWord t → Two 0x7C (ushr_row s t)
  unfolding effect meaning
  iushr w w' = gives 0x7C (λ x d. unsigned_shift x (shift_distance d)) (ushr_row s t) (λ at locals store vs. refl) refl
      (λ x y hx hy. held_wide (ushr_row s t) (unsigned_shift x (shift_distance y)) (ushr_word s t w w')
      (ushr_holds s t x y (word_fits s x w hx) hx hy))

  pub iand : IsWord s → IsWord t → Two 0x7E (and_row s t)
  unfolding effect meaning
  iand w w' = gives 0x7E (int_bit_and w32) (and_row s t) (λ at locals store vs. refl) refl
      (λ x y hx hy. held_wide (and_row s t) (int_bit_and w32 x y) (and_word s t w w')
      (and_holds s t (and_row s t) x y w w' (and_row_fits s t w w') hx hy))

  pub ior : IsWord s → IsWord t → Two 0x80 (or_row s t)
  unfolding effect meaning
  ior w w' = gives 0x80 (int_bit_or w32) (or_row s t) (λ at locals store vs. refl) refl
      (λ x y hx hy. held_wide (or_row s t) (int_bit_or w32 x y) (or_word s t w w')
      (or_holds s t (or_row s t) x y w w' (or_row_fits s t w w') hx hy))

  pub ixor : IsWord s → IsWord t → Two 0x82 (or_row s t)
  unfolding effect meaning
  ixor w w' = gives 0x82 (int_bit_xor w32) (or_row s t) (λ at locals store vs. refl) refl
      (λ x y hx hy. held_wide (or_row s t) (int_bit_xor w32 x y) (or_word s t w w')
      (xor_holds s t (or_row s t) x y w w' (or_row_fits s t w w') hx hy))

  -- ---- quotients and remainders

  module _ (op : ℕ) (exact : ℤ → ℤ → ℤ) (result : Span) (holds : (x y : ℤ) → Holds s x → Holds t y → y ≢ pos 0
      → Holds result (wide (exact x y))) (code : NMethod) (here : ℕ) (there : slice_get code.insns here
      ≡ Some (insns.Op (arithmetic op + 1))) (at : ℕ) (ks : List Kind) (x : ℤ) (hx : Holds s x) (onto vs ws :
      List Value) (locals words : List (Option Value)) (store : Store) (memory : NMemory)
      (stores : Stores l store memory) (held : IntLocals memory.heap f pairs ls locals words)
      (rest : IntStacks memory.heap ks vs ws) where
    abbrev divided : (x y : ℤ) → NEffect
    divided x y = narrow.effect_of_result (if is_zero y then Fails Calculations.Arithmetic
        else Fine (int_words (wide (exact x y)) ++ ws) words) (here + 1) memory

    abbrev DividesInStep : by_name.Effect → Type 0
    DividesInStep named = InStep l f pairs (Range result ∷ ks) ls here (here + 1) words memory (at + 1) named
        (λ n. walk (by_label l) code n (spot here onto words memory)) 1

    by_quotient : (y : ℤ) (e : by_name.Effect) → Holds t y → y ≢ pos 0 → asked l code (insns.Op (arithmetic op + 1))
        here onto words memory ≡ narrow.Go (here + 1) (int_words (wide (exact x y)) ++ ws) words memory
        → e ≡ by_name.Go (at + 1) (Num (wide (exact x y)) ∷ vs) locals store → DividesInStep e
    by_quotient y e h some does named = goes (record {
      stack = Num (wide (exact x y)) ∷ vs;
      locals = locals;
      store = store;
      nstack = int_words (wide (exact x y)) ++ ws;
      nlocals = words;
      nmemory = memory;
      by_name = named;
      steps = 1;
      few = omega arith;
      some = λ h. omega arith;
      by_label = onward l code 0 here (here + 1) (insns.Op (arithmetic op + 1)) onto
          (int_words (wide (exact x y)) ++ ws) words words memory memory _ there does refl;
      stacks_agree = number (spelt_result (wide (exact x y)) (exact x y) refl) (holds x y hx h some) rest;
      locals_agree = held;
      stores_agree = stores;
    })

    by_divisor : (y : ℤ) (e : by_name.Effect) → Holds t y → asked l code (insns.Op (arithmetic op + 1)) here onto words
        memory ≡ divided x y → e ≡ after_operation by m at locals store (Divides exact) (Num y ∷ Num x ∷ vs)
        → DividesInStep e
    by_divisor (pos zero) e h does named = raises (record {
      fault = by_name.Arithmetic;
      at = here;
      behind = here + 1;
      nstack = onto;
      by_name = named;
      steps = 1;
      few = omega arith;
      by_label = raised l code 0 here (insns.Op (arithmetic op + 1)) onto words memory Calculations.Arithmetic there
          does;
      from = omega arith;
      before = omega arith;
    })
    by_divisor (pos (suc n)) e h does named = by_quotient (pos (suc n)) e h (λ q. cc) does named
    by_divisor (negsuc n) e h does named = by_quotient (negsuc n) e h (λ q. cc) does named

  divides : (op : ℕ) (exact : ℤ → ℤ → ℤ) (result : Span)
      → Asks op (λ vs at locals store. after_operation by m at locals store (Divides exact) vs)
      → operation (insns.Op (arithmetic op + 1)) ≡ Do (int_divided exact [])
      → ((x y : ℤ) → Holds s x → Holds t y → y ≢ pos 0 → Holds result (wide (exact x y))) → Two op result
  divides op exact result named means holds place code here is at ks _ _ locals words store memory before after stores
      held (number {x = y} {high = high'} {low = low'} {ws = _} ey hy
      (number {x = x} {high = high} {low = low} {vs = vs} {ws = ws} ex hx rest)) =
      let onto = Num low' ∷ Num high' ∷ Num low ∷ Num high ∷ ws in
      by_divisor op exact result holds code here is.0 at ks x hx onto vs ws locals words store memory stores held rest y
      _ hy
      (ap (λ o. narrow.effect (classes l) o code.max_stack (here + 1) words memory onto) means
      ∙ ap (λ a. let e : NEffect = narrow.effect_of_result (if is_zero (spelt_by high' low')
      then Fails Calculations.Arithmetic else Fine (int_words (wide (exact a (spelt_by high' low'))) ++ ws) words)
      (here + 1) memory in e) (sym ex)
      ∙ ap (λ c. let e : NEffect = narrow.effect_of_result (if is_zero c then Fails Calculations.Arithmetic
      else Fine (int_words (wide (exact x c)) ++ ws) words) (here + 1) memory in e) (sym ey))
      (named at locals store (Num y ∷ Num x ∷ vs))

  pub idiv : Two 0x6C (div_row s t)
  unfolding effect meaning
  idiv = divides 0x6C int_div (div_row s t) (λ at locals store vs. refl) refl (λ x y hx hy some. div_holds s t x y hx
      hy)

  pub irem : IsWord s → IsWord t → Two 0x70 (rem_row s t)
  unfolding effect meaning
  irem w w' = divides 0x70 int_rem (rem_row s t) (λ at locals store vs. refl) refl
      (λ x y hx hy some. held_wide (rem_row s t) (int_rem x y) (rem_word s t w w') (rem_holds s t x y hx hy some))

module _ (by : Linked) (l : Named) (f : Frame) (pairs : ℕ) (r : Resolution) (m : Method) (b : Before) (ls : List Kind)
    (s : Span) where
  pub ineg : IntRow by l f pairs r m b (jop.Arith 0x74) (Range s ∷ []) (Range (neg_row s) ∷ []) ls ls
  unfolding effect meaning
  ineg place code here is at ks _ _ locals words store memory before after stores held
      (number {x = x} {high = high} {low = low} {vs = vs} {ws = ws} ex hx rest) =
      let z = neg_ℤ (spelt_by high low) in
      goes (record {
        stack = Num (wide (neg_ℤ x)) ∷ vs;
        locals = locals;
        store = store;
        nstack = int_words (wide z) ++ ws;
        nlocals = words;
        nmemory = memory;
        by_name = refl;
        steps = 1;
        few = omega arith;
        some = λ h. omega arith;
        by_label = onward l code 0 here (here + 1) (insns.Op 0x4C) (Num low ∷ Num high ∷ ws) (int_words (wide z) ++ ws)
            words words memory memory _ is.0 refl refl;
        stacks_agree = number (spelt_result (wide (neg_ℤ x)) z (ap (λ a. wide (neg_ℤ a)) ex)) (neg_holds s x hx) rest;
        locals_agree = held;
        stores_agree = stores;
      })

  -- two instructions: of the number one word, and of that two
  narrows : (op narrow_op : ℕ) (cut : ℤ → ℤ) (result : Span) (code : NMethod) (here : ℕ)
      → operation (insns.Op narrow_op) ≡ Do (Calculations.from_int cut [])
      → ((at : ℕ) (locals : List (Option Value)) (store : Store) (x : ℤ) (vs : List Value)
      → effect by m at locals store (jop.Narrow op) (Num x ∷ vs) ≡ by_name.Go (at + 1) (Num (cut x) ∷ vs) locals store)
      → ((z : ℤ) → FitsSigned w32 (cut z)) → ((z : ℤ) → Holds s z → Holds result (cut z))
      → slice_get code.insns here ≡ Some (insns.Op narrow_op)
      → slice_get code.insns (here + 1) ≡ Some (insns.Op 0x5C)
      → (at : ℕ) (ks : List Kind) (vs ws : List Value) (locals words : List (Option Value)) (store : Store)
      (memory : NMemory) → HasIntRoom (length (Range result ∷ ks)) m.max_stack code.max_stack
      → Stores l store memory → IntLocals memory.heap f pairs ls locals words
      → IntStacks memory.heap (Range s ∷ ks) vs ws
      → InStep l f pairs (Range result ∷ ks) ls here (here + 1 + 1) words memory (at + 1)
      (effect by m at locals store (jop.Narrow op) vs) (λ n. walk (by_label l) code n (spot here ws words memory)) 2
  unfolding meaning
  narrows op narrow_op cut result code here means named fits holds there then_there at ks _ _ locals words store memory
      after stores held (number {x = x} {high = high} {low = low} {vs = vs} {ws = ws} ex hx rest) =
      let z = cut (spelt_by high low) in
      let h = (heights rest).words in let wide_enough = after.words in let high_enough = after.by_name in
      goes (record {
        stack = Num (cut x) ∷ vs;
        locals = locals;
        store = store;
        nstack = int_words z ++ ws;
        nlocals = words;
        nmemory = memory;
        by_name = named at locals store x vs;
        steps = 2;
        few = omega arith;
        some = λ h. omega arith;
        by_label = onward l code 1 here (here + 1) (insns.Op narrow_op) (Num low ∷ Num high ∷ ws) (Num z ∷ ws) words
            words memory memory _ there (ap (λ o. narrow.effect (classes l) o code.max_stack (here + 1) words memory
            (Num low ∷ Num high ∷ ws)) means)
            (onward l code 0 (here + 1) (here + 1 + 1) (insns.Op 0x5C) (Num z ∷ ws) (int_words z ++ ws) words words
            memory memory _ then_there (push_words (int_words z) code.max_stack (here + 1 + 1) ws words memory
            (omega (arith, h, wide_enough, high_enough))) refl);
        stacks_agree = number (spelt_number (cut x) z (ap cut ex) (fits (spelt_by high low))) (holds x hx) rest;
        locals_agree = held;
        stores_agree = stores;
      })

  pub i2b : IntRow by l f pairs r m b (jop.Narrow 0x91) (Range s ∷ []) (Range (to_byte_row s) ∷ []) ls ls
  unfolding effect meaning
  i2b place code here is at ks vs ws locals words store memory before after stores held stacks =
      narrows 0x91 0x5D low_byte (to_byte_row s) code here refl (λ at locals store x vs. refl) byte_is_int
      (to_byte_holds s) is.0 is.1.0 at ks vs ws locals words store memory after stores held stacks

  pub i2s : IntRow by l f pairs r m b (jop.Narrow 0x93) (Range s ∷ []) (Range (to_short_row s) ∷ []) ls ls
  unfolding effect meaning
  i2s place code here is at ks vs ws locals words store memory before after stores held stacks =
      narrows 0x93 0x5E low_word (to_short_row s) code here refl (λ at locals store x vs. refl) word_is_int
      (to_short_holds s) is.0 is.1.0 at ks vs ws locals words store memory after stores held stacks
