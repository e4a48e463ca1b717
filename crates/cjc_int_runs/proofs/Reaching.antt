-- What both look-ups of a call find is called alike.
use Rattle.std.proofs.Common.{◌≡◌, ℕ, ◌+◌, refl, sym, ap, subst, ◌∙◌, Bool, List, ◌∷◌}
use Rattle.std.specs.Prelude.{Option, Some, None, slice_get}
use Rattle.cjc_script.specs.Bytes.declared.fault.MemberId.{MemberId}
use Rattle.cjc_script.specs.declared.value.Value.{Value}
use Rattle.cjc_script.specs.declared.value.Value.TheVariants.{Obj}
use Rattle.cjc_script.specs.Sorts.{Shape, Sort, Signature, signature_of}
use Rattle.cjc_card_semantics.specs.Bytecode.Effects.{HeapObject, shape}
use Rattle.cjc_card_semantics.specs.Bytecode.Machine.{Start}
use Rattle.cjc_ncode.specs.declared.narrow.NMethod.{NMethod}
use Rattle.cjc_ncode.specs.ByLabel.{Callee, Named}
use Rattle.cjc_jvm_semantics.specs.Linked.{Method, Linked}
use Rattle.cjc_jvm_semantics.specs.Linked
use Rattle.cjc_jvm_semantics.specs.Effects.{Store}
use Rattle.cjc_jvm_semantics.specs.Machine.{Frame, holder_of}
use Rattle.cjc_narrow_proof.specs.Selection.Calls.{NFrame}
use Rattle.cjc_narrow_proof.specs.Selection.Relation.{NMemory, Stores}
use Rattle.cjc_narrow_proof.proofs.SelectionLaws.Keeps.{made_there}
use Rattle.cjc_int_runs.specs.Modes.{Catches, Waits, Arguments, SelectedAlike, within_package, outside_package}
use Rattle.cjc_int_runs.specs.Modes.{CallsAlike, on_class, on_import, on_null, on_receiver, Chooses, chooses_method}
use Rattle.cjc_int_runs.specs.Modes.{chooses_import, CallReaches, reaches_method, reaches_import, reaches_objects}
use Rattle.cjc_int_runs.specs.Relation.{RefersTo, to_null, to_object}
use Rattle.cjc_int_runs.proofs.Begins.{handed_words}

module _ (by : Linked) (l : Named) (Here : NMemory → Frame → NFrame → Type 0) (results : Method → Option Sort)
    (narrowed : Method → Start NMethod) (may_throw : Shape (List ℕ) → Bool) (memory : NMemory) (f : Frame) (g : NFrame)
    (op : ℕ) (id : MemberId) (callee : Callee) (types : Signature) (has_types : signature_of id.desc ≡ Some types)
    (a : Arguments by l Here results narrowed may_throw memory.heap types f g) where
  abbrev Waiting_for : Option Sort → List Value → List Value → Type 0
  Waiting_for result under below = Waits by l Here results narrowed may_throw memory.heap result
      (record f { stack = under }) (record g { stack = below })

  abbrev Calling : Type 0
  Calling = CallsAlike by l Here results narrowed may_throw memory op id callee f g

  pub calls_class : CallReaches by l Here results narrowed may_throw (holder_of f) op id callee types a.kinds None
      → Waiting_for types.result a.under a.below → Calling
  calls_class (reaches_method m found on many reached same enters) waits =
      on_class types a m found has_types on (many ∙ ap Some (sym (handed_words a.handed))) reached
      (enters memory a.args a.words a.handed) (subst (λ r. Waiting_for r a.under a.below) (sym same) waits)
  calls_class (reaches_import event found on many reached imported) waits =
      on_import types a event found has_types on (many ∙ ap Some (sym (handed_words a.handed))) reached imported waits

  chosen : (selected : List ℕ → Option Linked.Callee) (object : ℕ) (thing : HeapObject (List ℕ) MemberId)
      (under below : List Value) → slice_get memory.heap object ≡ Some thing
      → Chooses by l Here results narrowed may_throw id callee types a.kinds selected (shape thing)
      → Waiting_for types.result under below
      → SelectedAlike by l Here results narrowed may_throw memory id callee types selected (shape thing)
      (Obj object ∷ a.args) (Obj object ∷ a.words) (record f { stack = under }) (record g { stack = below })
  chosen selected object thing under below there (chooses_method m e e' same enters) waits =
      within_package m e e' (enters memory object thing a.args a.words there refl a.handed)
      (subst (λ r. Waiting_for r under below) (sym same) waits)
  chosen selected object thing under below there (chooses_import event e e' imported) waits =
      outside_package event e e' imported waits

  pub calls_object : (store : Store) → Stores l store memory → (within : Shape (List ℕ) → Bool)
      → CallReaches by l Here results narrowed may_throw (holder_of f) op id callee types a.kinds (Some within)
      → (v : Value) (under below : List Value) → a.under ≡ v ∷ under → a.below ≡ v ∷ below
      → RefersTo memory.heap within v → Catches by l Here results narrowed may_throw memory.heap f g
      → Waiting_for types.result under below → Calling
  calls_object store stores within (reaches_objects selected _ found on many chooses) _ under below is is' to_null
      catches waits =
      on_null types a selected under below found has_types on (many ∙ ap (λ n. Some (n + 1)) (sym (handed_words
      a.handed)))
      is is' catches
  calls_object store stores within (reaches_objects selected _ found on many chooses) _ under below is is'
      (to_object {k = k} thing there passes) catches waits =
      on_receiver types a selected under below k thing found has_types on
      (many ∙ ap (λ n. Some (n + 1)) (sym (handed_words a.handed))) is is' there
      (chosen selected k thing under below there (chooses (shape thing) passes (made_there l thing (stores.heap_fits k
      thing there))) waits)
