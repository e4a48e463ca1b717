-- The last of the instructions that are written for one of the class file: both go on behind it, with stacks that
-- agree, or both raise.
use Rattle.std.proofs.Common.{◌≡◌, ℕ, ◌+◌, List, ◌∷◌, [], ◌++◌, length, refl, sym, ap, arith}
use Rattle.std.specs.Prelude.{Option, Some, slice_get}
use Rattle.std.proofs.lemmas.List.{length-append}
use Rattle.cjc_script.specs.declared.value.Value.{Value}
use Rattle.cjc_card_semantics.specs.Bytecode.Effects as narrow
use Rattle.cjc_ncode.specs.declared.narrow.NInsn.{NInsn}
use Rattle.cjc_ncode.specs.declared.narrow.NMethod.{NMethod}
use Rattle.cjc_ncode.specs.ByLabel.{Named, by_label}
use Rattle.cjc_ncode.specs.IntCode.IntCode.{Frame}
use Rattle.cjc_jvm_semantics.specs.Effects.{Fault, Store}
use Rattle.cjc_jvm_semantics.specs.Effects as by_name
use Rattle.cjc_int_proof.specs.Walks.{Within as Inside, walk}
use Rattle.cjc_narrow_proof.specs.Selection.Acts.{Keeps}
use Rattle.cjc_narrow_proof.specs.Selection.Relation.{Kind, NMemory, Stores}
use Rattle.cjc_narrow_proof.specs.Selection.Rows.{NEffect, narrow_fault}
use Rattle.cjc_int_runs.specs.Relation.{IntLocals, IntStacks}
use Rattle.cjc_int_runs.specs.Steps.{InStep, behind, goes, raises, spot}
use Rattle.cjc_int_runs.proofs.Stepping.{onward, asked, raised}
use Rattle.cjc_int_runs.proofs.Guard.{behind_is, behind_both, and_onward}
use Rattle.cjc_int_runs.proofs.Kept.{int_locals_kept}

-- Both go on with stacks that agree, on heaps on which each array and object keeps its type; or both raise the same
-- exception.
pub data Lands (l : Named) (ks : List Kind) (at next : ℕ) (locals words : List (Option Value)) (memory : NMemory) :
    by_name.Effect → NEffect → Type 0 where
  lands : {vs ws : List Value} {store : Store} {new : NMemory} → Keeps memory.heap new.heap
      → IntStacks new.heap ks vs ws → Stores l store new
      → Lands l ks at next locals words memory (by_name.Go (at + 1) vs locals store) (narrow.Go next ws words new)
  fails : {fault : Fault} → Lands l ks at next locals words memory (by_name.Raise fault)
      (narrow.Raise (narrow_fault fault))

module _ (l : Named) (f : Frame) (pairs : ℕ) (ls : List Kind) (code : NMethod) (start at : ℕ) (before : List NInsn)
    (onto from : List Value) (locals words : List (Option Value)) (memory : NMemory) (held : IntLocals memory.heap f
    pairs ls locals words) (ks : List Kind) (i : NInsn)
    (leads : walk (by_label l) code (length before) (spot start onto words memory)
    ≡ Inside (spot (behind start before) from words memory)) (there : slice_get code.insns (behind start before)
    ≡ Some i) where
  pub last_lands : (e : by_name.Effect) (n : NEffect) → asked l code i (behind start before) from words memory ≡ n
      → Lands l ks at (behind start before + 1) locals words memory e n
      → InStep l f pairs ks ls start (behind start (before ++ i ∷ [])) words memory (at + 1) e
      (λ k. walk (by_label l) code k (spot start onto words memory)) (length (before ++ i ∷ []))
  last_lands _ _ does (lands {vs = vs} {ws = ws} {store = store} {new = new} keeps rest stores) =
      let long = length-append before (i ∷ []) in
      let next : behind start (before ++ i ∷ []) ≡ behind start before + 1 = behind_both start before (i ∷ []) in
      goes (record {
        stack = vs;
        locals = locals;
        store = store;
        nstack = ws;
        nlocals = words;
        nmemory = new;
        steps = length before + 1;
        few = omega (arith, long);
        some = λ h. omega arith;
        by_name = refl;
        by_label = and_onward l code (length before) 1 (spot start onto words memory) (spot (behind start before) from
            words memory) _ leads (onward l code 0 (behind start before) (behind start before + 1) i from ws words words
            memory new _ there does (ap (λ p. walk (by_label l) code 0 (spot p ws words new)) (sym next)));
        stacks_agree = rest;
        locals_agree = int_locals_kept keeps held;
        stores_agree = stores;
      })
  last_lands _ _ does (fails {fault = fault}) =
      let long = length-append before (i ∷ []) in
      let a = behind_is start before in let c = behind_is start (before ++ i ∷ []) in
      raises (record {
        fault = fault;
        at = behind start before;
        behind = behind start before + 1;
        nstack = from;
        steps = length before + 1;
        few = omega (arith, long);
        by_name = refl;
        by_label = and_onward l code (length before) 1 (spot start onto words memory) (spot (behind start before) from
            words memory) _ leads (raised l code 0 (behind start before) i from words memory _ there does);
        from = omega (arith, a);
        before = omega (arith, a, c, long);
      })
