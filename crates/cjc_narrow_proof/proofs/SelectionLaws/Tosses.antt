-- An athrow makes a turn of both machines.
use Rattle.std.proofs.Common.{◌≡◌, ℕ, ◌+◌, sym, subst, Bool, true, List, ◌∷◌}
use Rattle.std.specs.Prelude.{Some, slice_get}
use Rattle.cjc_bytes.specs.declared.fault.MemberId.{MemberId}
use Rattle.cjc_code.specs.declared.insn.JInsn.{JInsn}
use Rattle.cjc_code.specs.declared.insn.JOp.TheVariants as jop
use Rattle.cjc_script.specs.declared.value.Value.{Value}
use Rattle.cjc_script.specs.Sorts.{Shape, OfClass}
use Rattle.cjc_card_semantics.specs.Bytecode.Meanings.{meaning}
use Rattle.cjc_card_semantics.specs.Bytecode.Effects.{HeapObject, shape}
use Rattle.cjc_card_semantics.specs.Bytecode.Effects as narrow_effects
use Rattle.cjc_card_semantics.specs.Bytecode.Machine as narrow
use Rattle.cjc_ncode.specs.declared.narrow.NInsn.TheVariants as insns
use Rattle.cjc_ncode.specs.ByLabel.{Named, by_label, classes, operation}
use Rattle.cjc_jvm_semantics.specs.Linked.{Linked}
use Rattle.cjc_jvm_semantics.specs.Effects.{NullPointer, exception_class, effect}
use Rattle.cjc_jvm_semantics.specs.Machine.{Frame, State, after_effect, spend, step}
use Rattle.cjc_narrow_proof.specs.Selection.Relation.{Kind, Refers, null, object, Stacks, cell, Stores}
use Rattle.cjc_narrow_proof.specs.Selection.Calls.{NFrame, NState}
use Rattle.cjc_narrow_proof.specs.Selection.Throws.{nheap, HandleAlike, IsRaised}
use Rattle.cjc_narrow_proof.specs.Selection.Turns.{with_spent}
use Rattle.cjc_narrow_proof.specs.Selection.Tosses.{ThrowTurn, throws, is_null}
use Rattle.cjc_narrow_proof.proofs.SelectionLaws.Paths.{named_step, narrow_step}
use Rattle.cjc_narrow_proof.proofs.SelectionLaws.Throws.{thrown, failed}

module _ (by : Linked) (l : Named) (within : Shape (List ℕ) → Bool) (ks : List Kind) (f : Frame) (outer : List Frame)
    (s : State) (g : NFrame) (others : List NFrame) (t : NState) (stores : Stores l s.store t.memory)
    (raised : IsRaised l NullPointer)
    (handle_null : HandleAlike by l (nheap t) (OfClass (exception_class NullPointer)) (f ∷ outer) (g ∷ others))
    (handle : (thing : HeapObject (List ℕ) MemberId) → within (shape thing) ≡ true
    → HandleAlike by l (nheap t) (shape thing) (f ∷ outer) (g ∷ others)) where
  by_stack : (vs ws : List Value) → Stacks (nheap t) (Refers within ∷ ks) vs ws
      → ThrowTurn by l within f outer s g others t (spend by (after_effect by (effect by f.method f.at f.locals s.store
      jop.Throw vs) f outer s)) (narrow.spent_by (by_label l) t.spent (narrow.made (by_label l)
      (narrow_effects.effect (classes l) (operation (insns.Op 0x93)) (let m = g.code in m.max_stack) (g.at + 1)
      g.locals t.memory ws) (g.at + 1) g others (with_spent t)))
  unfolding effect meaning
  by_stack _ _ (cell null rest) = is_null (λ passing passes. failed by l passing f outer s g others (with_spent t)
      stores NullPointer (g.at + 1) raised passes handle_null)
  by_stack _ _ (cell (object {k = k} thing there passes) rest) =
      throws k thing there passes (thrown by l within f outer s g others (with_spent t) stores k thing (g.at + 1) there
      passes (handle thing passes))

  pub throw_turns : (i : JInsn) → i.op ≡ jop.Throw → slice_get (let m = f.method in m.insns) f.at ≡ Some i
      → slice_get (let m = g.code in m.insns) g.at ≡ Some (insns.Op 0x93)
      → Stacks (nheap t) (Refers within ∷ ks) f.stack g.stack
      → ThrowTurn by l within f outer s g others t (step by (f ∷ outer) s) (narrow.step (by_label l) (g ∷ others) t)
  throw_turns i is there written stack =
      subst (λ m. ThrowTurn by l within f outer s g others t m (narrow.step (by_label l) (g ∷ others) t))
      (sym (named_step by f outer s i there))
      (subst (λ op. ThrowTurn by l within f outer s g others t
      (spend by (after_effect by (effect by f.method f.at f.locals s.store op f.stack) f outer s))
      (narrow.step (by_label l) (g ∷ others) t)) (sym is)
      (subst (ThrowTurn by l within f outer s g others t
      (spend by (after_effect by (effect by f.method f.at f.locals s.store jop.Throw f.stack) f outer s)))
      (sym (narrow_step l g others t (insns.Op 0x93) written))
      (by_stack f.stack g.stack stack)))
