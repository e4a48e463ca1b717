-- An instruction that pushes what is read, and s2i behind it where that is one word of a number.
use Rattle.std.proofs.Common.{◌≡◌, ℕ, ◌+◌, List, ◌∷◌, [], ◌++◌, length, refl}
use Rattle.std.proofs.Common.{arith}
use Rattle.std.proofs.Common.{Bool}
use Rattle.std.specs.Prelude.{Option, Some, slice_get}
use Rattle.cjc_range.specs.Span.{Span}
use Rattle.cjc_script.specs.declared.value.Value.{Value}
use Rattle.cjc_script.specs.declared.value.Value.TheVariants.{Num}
use Rattle.cjc_script.specs.Sorts.{Shape}
use Rattle.cjc_card_semantics.specs.Bytecode.Calculations.{int_words}
use Rattle.cjc_card_semantics.specs.Bytecode.Meanings.{meaning}
use Rattle.cjc_ncode.specs.declared.narrow.NInsn.{NInsn}
use Rattle.cjc_ncode.specs.declared.narrow.NInsn.TheVariants as insns
use Rattle.cjc_ncode.specs.declared.narrow.NMethod.{NMethod}
use Rattle.cjc_ncode.specs.ByLabel.{Named, by_label}
use Rattle.cjc_ncode.specs.IntCode.IntCode.{Frame}
use Rattle.cjc_jvm_semantics.specs.Linked.{Method}
use Rattle.cjc_jvm_semantics.specs.Effects.{Store}
use Rattle.cjc_jvm_semantics.specs.Effects as by_name
use Rattle.cjc_int_proof.specs.Walks.{walk}
use Rattle.cjc_narrow_proof.specs.Selection.Relation.{Kind, Range, Refers, Heap, NMemory, Stores}
use Rattle.cjc_narrow_proof.specs.Selection.Rows.{NEffect}
use Rattle.cjc_int_runs.specs.Relation.{RefersTo, IntLocals, IntStacks, number, reference}
use Rattle.cjc_int_runs.specs.Steps.{InStep, HasIntRoom, goes, raises, spot}
use Rattle.cjc_int_runs.proofs.Spelling.{spelt_number}
use Rattle.cjc_int_runs.proofs.Stepping.{onward, asked, raised, heights, push_words}
use Rattle.cjc_int_runs.proofs.ItemsRead.{OneWord, one_word, TwoWords, two_words, Reads, reads, fails}

-- a reference, as one word
pub data OneReference (heap : Heap) (within : Shape (List ℕ) → Bool) : Value → List Value → Type 0 where
  one_reference : {v : Value} → RefersTo heap within v → OneReference heap within v (v ∷ [])

module _ (l : Named) (f : Frame) (pairs : ℕ) (m : Method) (ls : List Kind) (code : NMethod) (here at : ℕ)
    (onto vs ws : List Value) (locals words : List (Option Value)) (store : Store) (memory : NMemory)
    (stores : Stores l store memory) (held : IntLocals memory.heap f pairs ls locals words) (ks : List Kind)
    (rest : IntStacks memory.heap ks vs ws) (i : NInsn) (there : slice_get code.insns here ≡ Some i) where
  -- one word of a number
  pub then_widened : (t : Span) (e : by_name.Effect) (n : NEffect) → HasIntRoom (length (Range t ∷ ks)) m.max_stack
      code.max_stack → slice_get code.insns (here + 1) ≡ Some (insns.Op 0x5C) → asked l code i here onto words memory
      ≡ n
      → Reads (OneWord t) at (here + 1) vs ws locals words store memory e n
      → InStep l f pairs (Range t ∷ ks) ls here (here + 1 + 1) words memory (at + 1) e
      (λ k. walk (by_label l) code k (spot here onto words memory)) 2
  unfolding meaning
  then_widened t _ _ room then_there does (reads v new (one_word x h fits)) =
      let tall = (heights rest).words in let p = room.by_name in let q = room.words in
      goes (record {
        stack = Num x ∷ vs;
        locals = locals;
        store = store;
        nstack = int_words x ++ ws;
        nlocals = words;
        nmemory = memory;
        steps = 2;
        few = omega arith;
        some = λ h. omega arith;
        by_name = refl;
        by_label = onward l code 1 here (here + 1) i onto (Num x ∷ ws) words words memory memory _ there does
            (onward l code 0 (here + 1) (here + 1 + 1) (insns.Op 0x5C) (Num x ∷ ws) (int_words x ++ ws) words words
            memory memory _ then_there (push_words (int_words x) code.max_stack (here + 1 + 1) ws words memory
            (omega (arith, tall, p, q))) refl);
        stacks_agree = number (spelt_number x x refl fits) h rest;
        locals_agree = held;
        stores_agree = stores;
      })
  then_widened t _ _ room then_there does (fails {fault = fault}) = raises (record {
    fault = fault;
    at = here;
    behind = here + 1;
    nstack = onto;
    steps = 1;
    few = omega arith;
    by_name = refl;
    by_label = raised l code 0 here i onto words memory _ there does;
    from = omega arith;
    before = omega arith;
  })

  -- two words
  pub as_int : (t : Span) (e : by_name.Effect) (n : NEffect) → asked l code i here onto words memory ≡ n
      → Reads (TwoWords t) at (here + 1) vs ws locals words store memory e n
      → InStep l f pairs (Range t ∷ ks) ls here (here + 1) words memory (at + 1) e
      (λ k. walk (by_label l) code k (spot here onto words memory)) 1
  as_int t _ _ does (reads v new (two_words x h fits)) = goes (record {
    stack = Num x ∷ vs;
    locals = locals;
    store = store;
    nstack = int_words x ++ ws;
    nlocals = words;
    nmemory = memory;
    steps = 1;
    few = omega arith;
    some = λ h. omega arith;
    by_name = refl;
    by_label = onward l code 0 here (here + 1) i onto (int_words x ++ ws) words words memory memory _ there does refl;
    stacks_agree = number (spelt_number x x refl fits) h rest;
    locals_agree = held;
    stores_agree = stores;
  })
  as_int t _ _ does (fails {fault = fault}) = raises (record {
    fault = fault;
    at = here;
    behind = here + 1;
    nstack = onto;
    steps = 1;
    few = omega arith;
    by_name = refl;
    by_label = raised l code 0 here i onto words memory _ there does;
    from = omega arith;
    before = omega arith;
  })

  -- a reference
  pub as_reference : (within : Shape (List ℕ) → Bool) (e : by_name.Effect) (n : NEffect) → asked l code i here onto
      words
      memory ≡ n → Reads (OneReference memory.heap within) at (here + 1) vs ws locals words store memory e n
      → InStep l f pairs (Refers within ∷ ks) ls here (here + 1) words memory (at + 1) e
      (λ k. walk (by_label l) code k (spot here onto words memory)) 1
  as_reference within _ _ does (reads v new (one_reference refers)) = goes (record {
    stack = v ∷ vs;
    locals = locals;
    store = store;
    nstack = v ∷ ws;
    nlocals = words;
    nmemory = memory;
    steps = 1;
    few = omega arith;
    some = λ h. omega arith;
    by_name = refl;
    by_label = onward l code 0 here (here + 1) i onto (v ∷ ws) words words memory memory _ there does refl;
    stacks_agree = reference refers rest;
    locals_agree = held;
    stores_agree = stores;
  })
  as_reference within _ _ does (fails {fault = fault}) = raises (record {
    fault = fault;
    at = here;
    behind = here + 1;
    nstack = onto;
    steps = 1;
    few = omega arith;
    by_name = refl;
    by_label = raised l code 0 here i onto words memory _ there does;
    from = omega arith;
    before = omega arith;
  })
