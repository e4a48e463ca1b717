-- baload, saload and iaload.
use Rattle.std.proofs.Common.{◌≡◌, ℕ, ◌+◌, List, ◌∷◌, [], ◌++◌, length, refl, sym, ap}
use Rattle.std.proofs.Common.{◌∙◌, arith}
use Rattle.std.proofs.Common.{Bool, true, ℤ}
use Rattle.std.specs.Prelude.{Option, Some, slice_get}
use Rattle.std.proofs.lemmas.List.{length-append}
use Rattle.cjc_range.specs.Span.{Span, Within, full}
use Rattle.cjc_range.proofs.Order.{held_wider}
use Rattle.cjc_int_proof.specs.Bytecode.declared.insn.JOp.TheVariants as jop
use Rattle.cjc_script.specs.declared.value.Value.{Value}
use Rattle.cjc_script.specs.declared.value.Value.TheVariants.{Num}
use Rattle.cjc_script.specs.Sorts.{Shape}
use Rattle.cjc_card_semantics.specs.Bytecode.Calculations.{int_words}
use Rattle.cjc_card_semantics.specs.Bytecode.Meanings.{meaning}
use Rattle.cjc_card_semantics.specs.Bytecode.Effects as narrow
use Rattle.cjc_ncode.specs.declared.narrow.NInsn.{NInsn}
use Rattle.cjc_ncode.specs.declared.narrow.NInsn.TheVariants as insns
use Rattle.cjc_ncode.specs.declared.narrow.NMethod.{NMethod}
use Rattle.cjc_ncode.specs.ByLabel.{Named, by_label}
use Rattle.cjc_ncode.specs.Written.{Resolution}
use Rattle.cjc_ncode.specs.IntCode.IntCode.{Frame, guard, element_read}
use Rattle.cjc_jvm_semantics.specs.Linked.{Method, Linked}
use Rattle.cjc_jvm_semantics.specs.Effects.{Store, AByte, AShort, AnInt, effect}
use Rattle.cjc_jvm_semantics.specs.Effects as by_name
use Rattle.cjc_int_proof.specs.Walks.{walk}
use Rattle.cjc_narrow_proof.specs.Selection.Relation.{Kind, Range, Refers, NMemory, Stores}
use Rattle.cjc_narrow_proof.specs.Selection.Rows.{NEffect}
use Rattle.cjc_narrow_proof.specs.Selection.Elements.{index_range, IsBytes, IsShorts, AreAll, ElementsLie}
use Rattle.cjc_int_runs.specs.Guards.{Guarded}
use Rattle.cjc_int_runs.specs.Elements.{IsInts}
use Rattle.cjc_int_runs.specs.Relation.{IntLocals, IntStacks, number, reference}
use Rattle.cjc_int_runs.specs.Steps.{IntRow, InStep, HasIntRoom, behind, goes, spot, known}
use Rattle.cjc_int_runs.proofs.Spelling.{spelt_number}
use Rattle.cjc_int_runs.proofs.Stepping.{onward, asked, heights, push_words}
use Rattle.cjc_int_runs.proofs.Guard.{behind_both, stand_front, stand_back, and_onward, guard_leads}
use Rattle.cjc_int_runs.proofs.Raising.{raised_behind}
use Rattle.cjc_int_runs.proofs.ItemsRead.{OneWord, one_word, TwoWords, two_words, Reads, reads, fails, load_at}
use Rattle.cjc_int_runs.proofs.ItemsRead.{bytes_read, shorts_read, ints_read}

module _ (by : Linked) (l : Named) (f : Frame) (pairs : ℕ) (m : Method) (ls : List Kind) (code : NMethod)
    (here at : ℕ) (first : List NInsn) (i : ℤ) (onto under ws vs : List Value) (locals words : List (Option Value))
    (store : Store) (memory : NMemory) (stores : Stores l store memory)
    (held : IntLocals memory.heap f pairs ls locals words) (g : Guarded l code here first i onto under words memory)
    (t : Span) (ks : List Kind) (rest : IntStacks memory.heap ks vs ws) where
  -- one instruction behind the guard
  one_more : (op : ℕ) (last : List NInsn) (e : by_name.Effect) (n : NEffect) → slice_get code.insns (behind here first)
      ≡ Some (insns.Op op) → last ≡ insns.Op op ∷ [] → asked l code (insns.Op op) (behind here first) (Num g.j ∷ under)
      words memory ≡ n → Reads (TwoWords t) at (behind here first + 1) vs ws locals words store memory e n
      → InStep l f pairs (Range t ∷ ks) ls here (behind here (first ++ last)) words memory (at + 1) e
      (λ k. walk (by_label l) code k (spot here onto words memory)) (length (first ++ last))
  one_more op last _ _ there is does (reads v new (two_words x h fits)) =
      let long = length-append first last in let size = ap length is in let few = g.few in let some = g.some in
      let next : behind here (first ++ last) ≡ behind here first + 1 = behind_both here first last
      ∙ ap (behind (behind here first)) is in
      goes (record {
        stack = Num x ∷ vs;
        locals = locals;
        store = store;
        nstack = int_words x ++ ws;
        nlocals = words;
        nmemory = memory;
        steps = g.steps + 1;
        few = omega (arith, long, size, few);
        some = λ h. omega (arith, some);
        by_name = refl;
        by_label = and_onward l code g.steps 1 (spot here onto words memory) (spot (behind here first) (Num g.j ∷ under)
            words memory) _ g.leads (onward l code 0 (behind here first) (behind here first + 1) (insns.Op op)
            (Num g.j ∷ under) (int_words x ++ ws) words words memory memory _ there does
            (ap (λ p. walk (by_label l) code 0 (spot p (int_words x ++ ws) words memory)) (sym next)));
        stacks_agree = number (spelt_number x x refl fits) h rest;
        locals_agree = held;
        stores_agree = stores;
      })
  one_more op last _ _ there is does (fails {fault = fault}) =
      let size = ap length is in
      raised_behind l f pairs (Range t ∷ ks) ls code here at first last i onto under words memory g op fault
      (omega (arith, size)) there does

  -- one instruction and s2i
  widened : (op : ℕ) (last : List NInsn) (e : by_name.Effect) (n : NEffect) → HasIntRoom (length (Range t ∷ ks))
      m.max_stack code.max_stack → slice_get code.insns (behind here first) ≡ Some (insns.Op op)
      → slice_get code.insns (behind here first + 1) ≡ Some (insns.Op 0x5C) → last ≡ insns.Op op ∷ insns.Op 0x5C ∷ []
      → asked l code (insns.Op op) (behind here first) (Num g.j ∷ under) words memory ≡ n
      → Reads (OneWord t) at (behind here first + 1) vs ws locals words store memory e n
      → InStep l f pairs (Range t ∷ ks) ls here (behind here (first ++ last)) words memory (at + 1) e
      (λ k. walk (by_label l) code k (spot here onto words memory)) (length (first ++ last))
  unfolding meaning
  widened op last _ _ room there then_there is does (reads v new (one_word x h fits)) =
      let long = length-append first last in let size = ap length is in let few = g.few in let some = g.some in
      let next : behind here (first ++ last) ≡ behind here first + 1 + 1 = behind_both here first last
      ∙ ap (behind (behind here first)) is in
      let tall = (heights rest).words in let p = room.by_name in let q = room.words in
      goes (record {
        stack = Num x ∷ vs;
        locals = locals;
        store = store;
        nstack = int_words x ++ ws;
        nlocals = words;
        nmemory = memory;
        steps = g.steps + 2;
        few = omega (arith, long, size, few);
        some = λ h. omega (arith, some);
        by_name = refl;
        by_label = and_onward l code g.steps 2 (spot here onto words memory) (spot (behind here first) (Num g.j ∷ under)
            words memory) _ g.leads (onward l code 1 (behind here first) (behind here first + 1) (insns.Op op)
            (Num g.j ∷ under) (Num x ∷ ws) words words memory memory _ there does
            (onward l code 0 (behind here first + 1) (behind here first + 1 + 1) (insns.Op 0x5C) (Num x ∷ ws)
            (int_words x ++ ws) words words memory memory _ then_there (push_words (int_words x) code.max_stack
            (behind here first + 1 + 1) ws words memory (omega (arith, tall, p, q)))
            (ap (λ p. walk (by_label l) code 0 (spot p (int_words x ++ ws) words memory)) (sym next))));
        stacks_agree = number (spelt_number x x refl fits) h rest;
        locals_agree = held;
        stores_agree = stores;
      })
  widened op last _ _ room there then_there is does (fails {fault = fault}) =
      let size = ap length is in
      raised_behind l f pairs (Range t ∷ ks) ls code here at first last i onto under words memory g op fault
      (omega (arith, size)) there does

module _ (by : Linked) (l : Named) (f : Frame) (pairs : ℕ) (r : Resolution) (m : Method) (ls : List Kind)
    (below : List Bool) (inside : Bool) (s t : Span) (within : Shape (List ℕ) → Bool) (near : inside ≡ true
    → Within s index_range) where
  -- a row of an instruction that reads an element
  abbrev Loads : (op : ℕ) → Type 0
  Loads op = IntRow by l f pairs r m (known (Range s ∷ Refers within ∷ []) below inside) (jop.ArrayLoad op)
      (Range s ∷ Refers within ∷ []) (Range t ∷ []) ls ls

  pub baload : AreAll l IsBytes within → ElementsLie within t → Loads 0x33
  unfolding effect meaning
  baload all lie place code here is at ks _ _ locals words store memory before after stores held (number {x = x}
      {high = high} {low = low} {ws = _} e h (reference {v = v} {vs = vs} {ws = ws} a rest)) =
      let tall = (heights rest).words in let p = before.by_name in let q = before.words in
      let g = guard_leads l code here x high low (v ∷ ws) words memory e inside
      (λ o. held_wider s index_range x (near o) h) (stand_front code here (guard inside here) (element_read 0x33) is)
      (omega (arith, tall, p, q)) in
      let then = stand_back code here (guard inside here) (element_read 0x33) is in
      widened by l f pairs m ls code here at (guard inside here) x (Num low ∷ Num high ∷ v ∷ ws) (v ∷ ws) ws vs locals
      words store memory stores held g t ks rest 0x25 (element_read 0x33) _ _ after then.0 then.1.0 refl refl
      (load_at by l m (OneWord t) code.max_stack at (behind here (guard inside here) + 1) vs ws locals words store
      memory
      stores (omega (arith, tall, p, q)) narrow.Byte AByte x g.j g.index within
      (λ kind o made. bytes_read within t lie kind o (all kind o made)) v a)

  pub saload : AreAll l IsShorts within → ElementsLie within t → Loads 0x35
  unfolding effect meaning
  saload all lie place code here is at ks _ _ locals words store memory before after stores held (number {x = x}
      {high = high} {low = low} {ws = _} e h (reference {v = v} {vs = vs} {ws = ws} a rest)) =
      let tall = (heights rest).words in let p = before.by_name in let q = before.words in
      let g = guard_leads l code here x high low (v ∷ ws) words memory e inside
      (λ o. held_wider s index_range x (near o) h) (stand_front code here (guard inside here) (element_read 0x35) is)
      (omega (arith, tall, p, q)) in
      let then = stand_back code here (guard inside here) (element_read 0x35) is in
      widened by l f pairs m ls code here at (guard inside here) x (Num low ∷ Num high ∷ v ∷ ws) (v ∷ ws) ws vs locals
      words store memory stores held g t ks rest 0x26 (element_read 0x35) _ _ after then.0 then.1.0 refl refl
      (load_at by l m (OneWord t) code.max_stack at (behind here (guard inside here) + 1) vs ws locals words store
      memory
      stores (omega (arith, tall, p, q)) narrow.Short AShort x g.j g.index within
      (λ kind o made. shorts_read within t lie kind o (all kind o made)) v a)

  pub iaload : AreAll l IsInts within → Within full t → Loads 0x2E
  unfolding effect meaning
  iaload all wide place code here is at ks _ _ locals words store memory before after stores held (number {x = x}
      {high = high} {low = low} {ws = _} e h (reference {v = v} {vs = vs} {ws = ws} a rest)) =
      let tall = (heights rest).words in let p = before.by_name in let q = before.words in
      let g = guard_leads l code here x high low (v ∷ ws) words memory e inside
      (λ o. held_wider s index_range x (near o) h) (stand_front code here (guard inside here) (element_read 0x2E) is)
      (omega (arith, tall, p, q)) in
      let then = stand_back code here (guard inside here) (element_read 0x2E) is in
      one_more by l f pairs m ls code here at (guard inside here) x (Num low ∷ Num high ∷ v ∷ ws) (v ∷ ws) ws vs locals
      words store memory stores held g t ks rest 0x27 (element_read 0x2E) _ _ then.0 refl refl
      (load_at by l m (TwoWords t) code.max_stack at (behind here (guard inside here) + 1) vs ws locals words store
      memory stores (omega (arith, tall, p, q)) narrow.Int AnInt x g.j g.index within
      (λ kind o made. ints_read t kind wide (all kind o made)) v a)
