-- Exceptions go outwards alike.
use Rattle.std.proofs.Common.{◌≡◌, ℕ, refl, sym, ap, subst, ◌∙◌, Bool, true, List, [], ◌∷◌, ◌++◌, length}
use Rattle.std.specs.Prelude.{Some, slice_get}
use Rattle.cjc_bytes.specs.declared.fault.MemberId.{MemberId}
use Rattle.cjc_bytes.proofs.Lists.{length_mapped}
use Rattle.cjc_bytes.proofs.Gets.{at_end}
use Rattle.cjc_code.specs.declared.insn.JInsn.{JInsn}
use Rattle.cjc_script.specs.declared.report.Note.TheVariants.{Thrown}
use Rattle.cjc_script.specs.declared.report.Thing.TheVariants as things
use Rattle.cjc_script.specs.Sorts.{Shape, OfClass, OfNumbers, OfReferences, shape_name}
use Rattle.cjc_card_semantics.specs.Bytecode.Runs.{Move, On}
use Rattle.cjc_card_semantics.specs.Bytecode.Effects.{HeapObject, Object, shape, Toss, Raise}
use Rattle.cjc_card_semantics.specs.Bytecode.Machine.{Next, StuckAt}
use Rattle.cjc_card_semantics.specs.Bytecode.Machine as narrow
use Rattle.cjc_ncode.specs.Written.{Resolution, place_in}
use Rattle.cjc_ncode.specs.ByLabel.{Named, by_label}
use Rattle.cjc_jvm_semantics.specs.Linked.{Linked}
use Rattle.cjc_jvm_semantics.specs.Effects.{Fault, exception_class}
use Rattle.cjc_jvm_semantics.specs.Effects as effects
use Rattle.cjc_jvm_semantics.specs.Machine.{Frame, State, heap_of, with_frames, with_note, with_last, offset}
use Rattle.cjc_jvm_semantics.specs.Machine.{after_throw, after_raise, after_athrow, after_effect}
use Rattle.cjc_narrow_proof.specs.Selection.Relation.{Kind, Heap, no_slots, of_class, shown, Stores, bare}
use Rattle.cjc_narrow_proof.specs.Selection.Rows.{narrow_fault}
use Rattle.cjc_narrow_proof.specs.Selection.Calls.{NFrame, NState, NTurn, CatchAgrees, takes, passes}
use Rattle.cjc_narrow_proof.specs.Selection.Acts.{Keeps}
use Rattle.cjc_narrow_proof.specs.Selection.Throws.{nheap, HandleAlike, no_frame, a_frame, Unwinds, handled, outwards}
use Rattle.cjc_narrow_proof.specs.Selection.Throws.{unhandled, Raises, IsRaised}
use Rattle.cjc_narrow_proof.proofs.SelectionLaws.Begins.{thing_shown, type_shown}
use Rattle.cjc_narrow_proof.proofs.SelectionLaws.Handlers.{caught}
use Rattle.cjc_narrow_proof.proofs.SelectionLaws.Keeps.{locals_kept, grown_keeps, grown_stores}

-- a type has one name on both sides
pub name_same : (l : Named) (kind : Shape (List ℕ)) → narrow.type_name (by_label l) kind ≡ shape_name kind
unfolding by_label
name_same l (OfClass class) = refl
name_same l (OfNumbers element) = refl
name_same l (OfReferences class) = refl

pub handle_kept : {by : Linked} {l : Named} {heap after : Heap} {kind : Shape (List ℕ)} {fs : List Frame}
    {gs : List NFrame} → Keeps heap after → HandleAlike by l heap kind fs gs → HandleAlike by l after kind fs gs
handle_kept keeps no_frame = no_frame
handle_kept keeps (a_frame r reached ls alike held more) = a_frame r reached ls alike (locals_kept keeps held)
    (handle_kept keeps more)

module _ (by : Linked) (l : Named) (within : Shape (List ℕ) → Bool) (object : ℕ) (thing : HeapObject (List ℕ) MemberId)
    (passing : within (shape thing) ≡ true) (from at : ℕ) (s : State) (t : NState) (there : slice_get (nheap t) object
    ≡ Some thing) where
  abbrev Leads : List Frame → List NFrame → Move State → NTurn → Type 0
  Leads = Unwinds by l within object (shape thing) s t

  -- one couple of frames
  through : (r : Resolution) (reached : List JInsn) (ls : List Kind) {f : Frame} {g : NFrame} {outer : List Frame}
      {others : List NFrame} {m : Move State} {n : NTurn} → CatchAgrees by l (place_in r reached) within ls from at
      object (shape thing) f outer s g others t m n
      → Leads outer others (after_throw by from outer object (shape_name (shape thing)) s) (narrow.caught (by_label l)
      at others object (shape thing) t) → Leads (f ∷ outer) (g ∷ others) m n
  through r reached ls (takes target frames) more = handled r reached ls target frames
  through r reached ls passes more = outwards more

  pub unwound : (outer : List Frame) (others : List NFrame) → HandleAlike by l (nheap t) (shape thing) outer others
      → Leads outer others (after_throw by from outer object (shape_name (shape thing)) s) (narrow.caught (by_label l)
      at others object (shape thing) t)
  unwound _ _ no_frame =
      subst (λ name. Leads [] [] (On (with_frames [] (with_note (Thrown (shape_name (shape thing)) object) s)))
      (Next (record t { frames = []; notes = t.notes ++ Thrown name object ∷ [] })))
      (sym (name_same l (shape thing))) unhandled
  unwound _ _ (a_frame {f = f} {g = g} {outer = outer} {others = others} r reached ls alike held more) =
      through r reached ls (caught by l r reached within ls from at object thing f outer s g others t alike there
      passing held) (unwound outer others more)

-- ---- athrow

module _ (by : Linked) (l : Named) (within : Shape (List ℕ) → Bool) (f : Frame) (outer : List Frame) (s : State)
    (g : NFrame) (others : List NFrame) (t : NState) (stores : Stores l s.store t.memory) where
  pub thrown : (object : ℕ) (thing : HeapObject (List ℕ) MemberId) (next : ℕ) → slice_get (nheap t) object ≡ Some thing
      → within (shape thing) ≡ true → HandleAlike by l (nheap t) (shape thing) (f ∷ outer) (g ∷ others)
      → Unwinds by l within object (shape thing) s t (f ∷ outer) (g ∷ others) (after_effect by (effects.Toss object) f
      outer s) (narrow.made (by_label l) (Toss object) next g others t)
  thrown object thing next there passing alike =
      subst (λ o. Unwinds by l within object (shape thing) s t (f ∷ outer) (g ∷ others) (after_athrow by o f outer
      object s) (narrow.turn_after_toss (by_label l) (slice_get (nheap t) object) g others object t))
      (sym (thing_shown l (nheap t) object thing stores.heap there))
      (subst (λ type. Unwinds by l within object (shape thing) s t (f ∷ outer) (g ∷ others) (after_throw by (offset f)
      (f ∷ outer) object type s) (narrow.turn_after_toss (by_label l) (slice_get (nheap t) object) g others object
      t)) (sym (type_shown l thing))
      (subst (λ o. Unwinds by l within object (shape thing) s t (f ∷ outer) (g ∷ others) (after_throw by (offset f) (f
      ∷ outer) object (shape_name (shape thing)) s) (narrow.turn_after_toss (by_label l) o g others object t))
      (sym there)
      (unwound by l within object thing passing (offset f) g.at s t there (f ∷ outer) (g ∷ others) alike)))

  -- ---- new objects that are thrown

  new_shown : (class : List ℕ) → things.Object class [] ≡ shown l (Object class [])
  unfolding by_label
  new_shown class = refl

  pub raised : (class : List ℕ) → l.imported class ≡ Some class → within (OfClass class) ≡ true
      → HandleAlike by l (nheap t) (OfClass class) (f ∷ outer) (g ∷ others) → (otherwise : NTurn)
      → Raises by l within class s t (f ∷ outer) (g ∷ others) (after_raise by class f outer s) (narrow.turn_after_raise
      (by_label l) (Some class) g others t otherwise)
  raised class imported passing alike otherwise =
      let new : HeapObject (List ℕ) MemberId = Object class [] in
      let here : length (heap_of s) ≡ length (nheap t) = ap length stores.heap ∙ length_mapped (shown l) (nheap t) in
      let after = narrow.with_last (by_label l) new t in
      record {
        stores = subst (λ x. Stores l (let u = with_last x s in u.store) after.memory) (sym (new_shown class))
            (grown_stores l s.store t.memory new stores (of_class (bare refl imported) no_slots));
        unwinds = subst (λ n. Unwinds by l within (length (nheap t)) (OfClass class) (with_last (things.Object class [])
            s) after (f ∷ outer) (g ∷ others) (after_throw by (offset f) (f ∷ outer) n class
            (with_last (things.Object class []) s)) (narrow.turn_after_raise (by_label l) (Some class) g others t
            otherwise)) (sym here)
            (unwound by l within (length (nheap t)) new passing (offset f) g.at (with_last (things.Object class []) s)
            after (at_end (nheap t) new) (f ∷ outer) (g ∷ others) (handle_kept (grown_keeps (nheap t) new)
            alike));
      }

  -- the machine's own exceptions
  pub failed : (fault : Fault) (next : ℕ) → IsRaised l fault → within (OfClass (exception_class fault)) ≡ true
      → HandleAlike by l (nheap t) (OfClass (exception_class fault)) (f ∷ outer) (g ∷ others)
      → Raises by l within (exception_class fault) s t (f ∷ outer) (g ∷ others) (after_effect by (effects.Raise fault) f
      outer s) (narrow.made (by_label l) (Raise (narrow_fault fault)) next g others t)
  unfolding by_label
  failed fault next is passing alike =
      subst (λ o. Raises by l within (exception_class fault) s t (f ∷ outer) (g ∷ others)
      (after_raise by (exception_class fault) f outer s) (narrow.turn_after_raise (by_label l) o g others t
      (StuckAt g.at t))) (sym is.class)
      (raised (exception_class fault) is.imported passing alike (StuckAt g.at t))
