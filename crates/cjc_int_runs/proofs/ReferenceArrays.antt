-- aaload and aastore.
use Rattle.std.proofs.Common.{◌≡◌, ℕ, ◌+◌, List, ◌∷◌, [], ◌++◌, length, refl, sym, ap, ◌∙◌}
use Rattle.std.proofs.Common.{arith}
use Rattle.std.proofs.Common.{Bool, true, ℤ}
use Rattle.std.specs.Prelude.{Option, Some, slice_get}
use Rattle.std.proofs.lemmas.List.{length-append}
use Rattle.cjc_range.specs.Span.{Span, Within}
use Rattle.cjc_range.proofs.Order.{held_wider}
use Rattle.cjc_int_proof.specs.Bytecode.declared.insn.JOp.TheVariants as jop
use Rattle.cjc_script.specs.declared.value.Value.{Value}
use Rattle.cjc_script.specs.declared.value.Value.TheVariants.{Num, Null, Obj}
use Rattle.cjc_script.specs.Sorts.{Shape}
use Rattle.cjc_card_semantics.specs.Bytecode.Meanings.{meaning}
use Rattle.cjc_ncode.specs.declared.narrow.NInsn.{NInsn}
use Rattle.cjc_ncode.specs.declared.narrow.NInsn.TheVariants as insns
use Rattle.cjc_ncode.specs.declared.narrow.NMethod.{NMethod}
use Rattle.cjc_ncode.specs.ByLabel.{Named, by_label}
use Rattle.cjc_ncode.specs.Written.{Resolution}
use Rattle.cjc_ncode.specs.IntCode.IntCode.{Frame, guard, element_read, index_of_one}
use Rattle.cjc_jvm_semantics.specs.Linked.{Method, Linked}
use Rattle.cjc_jvm_semantics.specs.Effects.{Store, effect}
use Rattle.cjc_jvm_semantics.specs.Effects as by_name
use Rattle.cjc_int_proof.specs.Walks.{walk}
use Rattle.cjc_narrow_proof.specs.Selection.Relation.{Kind, Range, Refers, NMemory, Stores}
use Rattle.cjc_narrow_proof.specs.Selection.Rows.{NEffect}
use Rattle.cjc_narrow_proof.specs.Selection.Elements.{index_range, IsReferences, AreAll, ItemsPass, KeepsAlike}
use Rattle.cjc_int_runs.specs.Guards.{Guarded}
use Rattle.cjc_int_runs.specs.Relation.{to_null, to_object, IntLocals, IntStacks, number, reference}
use Rattle.cjc_int_runs.specs.Steps.{IntRow, InStep, behind, goes, spot, known}
use Rattle.cjc_int_runs.proofs.Stepping.{onward, asked, heights}
use Rattle.cjc_int_runs.proofs.Guard.{behind_both, stand_front, stand_back, and_onward, guard_leads}
use Rattle.cjc_int_runs.proofs.Raising.{raised_behind}
use Rattle.cjc_int_runs.proofs.Finishing.{OneReference, one_reference}
use Rattle.cjc_int_runs.proofs.ItemsRead.{Reads, reads, fails}
use Rattle.cjc_int_runs.proofs.ArrayStores.{placed, stored}
use Rattle.cjc_int_runs.proofs.ReferencesHeld.{reference_load_at, reference_write_at}

module _ (by : Linked) (l : Named) (f : Frame) (pairs : ℕ) (m : Method) (ls : List Kind) (code : NMethod)
    (here at : ℕ) (first : List NInsn) (i : ℤ) (onto under ws vs : List Value) (locals words : List (Option Value))
    (store : Store) (memory : NMemory) (stores : Stores l store memory)
    (held : IntLocals memory.heap f pairs ls locals words) (g : Guarded l code here first i onto under words memory)
    (items : Shape (List ℕ) → Bool) (ks : List Kind) (rest : IntStacks memory.heap ks vs ws) where
  -- a reference behind the guard
  referred : (op : ℕ) (last : List NInsn) (e : by_name.Effect) (n : NEffect) → slice_get code.insns (behind here first)
      ≡ Some (insns.Op op) → last ≡ insns.Op op ∷ [] → asked l code (insns.Op op) (behind here first) (Num g.j ∷ under)
      words memory ≡ n → Reads (OneReference memory.heap items) at (behind here first + 1) vs ws locals words store
      memory
      e n → InStep l f pairs (Refers items ∷ ks) ls here (behind here (first ++ last)) words memory (at + 1) e
      (λ k. walk (by_label l) code k (spot here onto words memory)) (length (first ++ last))
  referred op last _ _ there is does (reads v new (one_reference refers)) =
      let long = length-append first last in let size = ap length is in let few = g.few in let some = g.some in
      let next : behind here (first ++ last) ≡ behind here first + 1 = behind_both here first last
      ∙ ap (behind (behind here first)) is in
      goes (record {
        stack = v ∷ vs;
        locals = locals;
        store = store;
        nstack = v ∷ ws;
        nlocals = words;
        nmemory = memory;
        steps = g.steps + 1;
        few = omega (arith, long, size, few);
        some = λ h. omega (arith, some);
        by_name = refl;
        by_label = and_onward l code g.steps 1 (spot here onto words memory) (spot (behind here first) (Num g.j ∷ under)
            words memory) _ g.leads (onward l code 0 (behind here first) (behind here first + 1) (insns.Op op)
            (Num g.j ∷ under) (v ∷ ws) words words memory memory _ there does
            (ap (λ p. walk (by_label l) code 0 (spot p (v ∷ ws) words memory)) (sym next)));
        stacks_agree = reference refers rest;
        locals_agree = held;
        stores_agree = stores;
      })
  referred op last _ _ there is does (fails {fault = fault}) =
      let size = ap length is in
      raised_behind l f pairs (Refers items ∷ ks) ls code here at first last i onto under words memory g op fault
      (omega (arith, size)) there does

module _ (by : Linked) (l : Named) (f : Frame) (pairs : ℕ) (r : Resolution) (m : Method) (ls : List Kind)
    (below : List Bool) (inside : Bool) (s : Span) (within items : Shape (List ℕ) → Bool) (near : inside ≡ true
    → Within s index_range) where
  pub aaload : AreAll l IsReferences within → ItemsPass l within items → IntRow by l f pairs r m
      (known (Range s ∷ Refers within ∷ []) below inside) (jop.ArrayLoad 0x32) (Range s ∷ Refers within ∷ [])
      (Refers items ∷ []) ls ls
  unfolding effect meaning
  aaload all pass place code here is at ks _ _ locals words store memory before after stores held (number {x = x}
      {high = high} {low = low} {ws = _} e h (reference {v = v} {vs = vs} {ws = ws} a rest)) =
      let tall = (heights rest).words in let p = before.by_name in let q = before.words in
      let g = guard_leads l code here x high low (v ∷ ws) words memory e inside
      (λ o. held_wider s index_range x (near o) h) (stand_front code here (guard inside here) (element_read 0x32) is)
      (omega (arith, tall, p, q)) in
      let then = stand_back code here (guard inside here) (element_read 0x32) is in
      referred by l f pairs m ls code here at (guard inside here) x (Num low ∷ Num high ∷ v ∷ ws) (v ∷ ws) ws vs locals
      words store memory stores held g items ks rest 0x24 (element_read 0x32) _ _ then.0 refl refl
      (reference_load_at by l m code.max_stack at (behind here (guard inside here) + 1) items vs ws locals words store
      memory (omega (arith, tall, p, q)) stores x g.j g.index within all pass v a)

  pub aastore : AreAll l IsReferences within → KeepsAlike by l m within items → IntRow by l f pairs r m
      (known (Refers items ∷ Range s ∷ Refers within ∷ []) below inside) (jop.ArrayStore 0x53)
      (Refers items ∷ Range s ∷ Refers within ∷ []) [] ls ls
  unfolding effect meaning
  aastore all tells place code here is at ks _ _ locals words store memory before after stores held
      (reference {ws = _} to_null (number {x = x} {high = high} {low = low} {ws = _} e h (reference {v = v} {vs = vs}
      {ws = ws} a rest))) =
      let tall = (heights rest).words in let p = before.by_name in let q = before.words in
      let first = index_of_one inside here in
      let g = placed l code here x high low (Null ∷ []) (v ∷ ws) words memory e inside
      (λ o. held_wider s index_range x (near o) h) (omega (arith, tall, p, q)) 1 refl refl refl refl refl
      (stand_front code here first (insns.Op 0x37 ∷ []) is) in
      let then = stand_back code here first (insns.Op 0x37 ∷ []) is in
      let onto = Null ∷ Num low ∷ Num high ∷ v ∷ ws in
      stored l f pairs ls code here here at [] first 0x37 x (Null ∷ []) onto onto ws vs v locals words memory held g ks
      rest refl refl then.0 _ _ refl
      (reference_write_at by l m at (behind here first + 1) items vs ws locals words store memory stores x g.j g.index
      Null to_null within all tells v a)
  aastore all tells place code here is at ks _ _ locals words store memory before after stores held
      (reference {ws = _} (to_object {k = k} thing there test) (number {x = x} {high = high} {low = low} {ws = _} e h
      (reference {v = v} {vs = vs} {ws = ws} a rest))) =
      let tall = (heights rest).words in let p = before.by_name in let q = before.words in
      let first = index_of_one inside here in
      let g = placed l code here x high low (Obj k ∷ []) (v ∷ ws) words memory e inside
      (λ o. held_wider s index_range x (near o) h) (omega (arith, tall, p, q)) 1 refl refl refl refl refl
      (stand_front code here first (insns.Op 0x37 ∷ []) is) in
      let then = stand_back code here first (insns.Op 0x37 ∷ []) is in
      let onto = Obj k ∷ Num low ∷ Num high ∷ v ∷ ws in
      stored l f pairs ls code here here at [] first 0x37 x (Obj k ∷ []) onto onto ws vs v locals words memory held g ks
      rest refl refl then.0 _ _ refl
      (reference_write_at by l m at (behind here first + 1) items vs ws locals words store memory stores x g.j g.index
      (Obj k) (to_object thing there test) within all tells v a)
