-- When a call and a handler lead both machines to frames that agree.
use Rattle.std.specs.Prelude.{◌≡◌, ℕ, ◌+◌, ◌-◌, ◌<◌, List, [], ◌∷◌, ◌++◌, length, replicate, Option, Some, None, Bool}
use Rattle.std.specs.Prelude.{true, false, slice_get}
use Rattle.cjc_bytes.specs.declared.fault.MemberId.{MemberId}
use Rattle.cjc_range.specs.Span.{Span}
use Rattle.cjc_code.specs.declared.insn.JInsn.{JInsn}
use Rattle.cjc_script.specs.declared.value.Value.{Value}
use Rattle.cjc_script.specs.declared.value.Value.TheVariants.{Obj}
use Rattle.cjc_script.specs.Sorts.{Shape, OfClass, Sort, Boolean, Byte, Short, Reference, Signature, shape_name}
use Rattle.cjc_script.specs.Sorts.{signature_of}
use Rattle.cjc_card_semantics.specs.Bytecode.Runs.{Move, On}
use Rattle.cjc_card_semantics.specs.Bytecode.Effects.{Slot}
use Rattle.cjc_card_semantics.specs.Bytecode.Machine.{Start, Within, Turn, Next}
use Rattle.cjc_card_semantics.specs.Bytecode.Machine as narrow
use Rattle.cjc_ncode.specs.declared.narrow.NMethod.{NMethod}
use Rattle.cjc_ncode.specs.Written.{Resolution, written_for, place_in, catches_at}
use Rattle.cjc_ncode.specs.ByLabel.{Callee, Named, on_object, by_label}
use Rattle.cjc_jvm_semantics.specs.Linked.{Method, Inside, OnClass, OnObject, Linked}
use Rattle.cjc_jvm_semantics.specs.Linked
use Rattle.cjc_jvm_semantics.specs.Effects.{Fault, place}
use Rattle.cjc_jvm_semantics.specs.Machine.{Frame, State, with_frames, frame_for_call, after_fault, after_throw, offset}
use Rattle.cjc_jvm_semantics.specs.Machine.{holder_of, room}
use Rattle.cjc_narrow_proof.specs.Selection.Relation.{Kind, Range, Refers, Free, Heap, Stacks, Locals, IsMadeOf}
use Rattle.cjc_narrow_proof.specs.Selection.Rows.{narrow_fault}

-- a method under way, the whole state, and what a turn gives, of narrow code
abbrev pub NFrame : Type 0
NFrame = narrow.Frame NMethod

-- the whole state of a machine that runs narrow code, with classes and fields by name
abbrev pub NState : Type 0
NState = narrow.State NMethod (List ℕ) MemberId (List (Slot MemberId))

-- what a turn of that machine gives
abbrev pub NTurn : Type 0
NTurn = Turn NMethod (List ℕ) MemberId (List (Slot MemberId))

-- the stacks and the locals of two frames
pub record Frames (heap : Heap) (ks ls : List Kind) (f : Frame) (g : NFrame) : Type 0 where
  pub stack : Stacks heap ks f.stack g.stack
  pub locals : Locals heap ls f.locals g.locals

-- ---- calls

-- the locals of a method that begins with arguments of these kinds
abbrev pub first_locals : Method → (params : List Kind) → List Kind
first_locals m params = params ++ replicate (m.max_locals - length params) Free

-- Both machines go on: in a method that passes a test and what is written for it, with arguments that agree as is known
-- of that method's,
-- above frames that wait behind the same call; or both raise the same exception in the frame that calls.
pub data CallAgrees (by : Linked) (l : Named) (narrowed : Method → Start NMethod) (may_begin : Method
    → Type 0) (params : Method → List Kind) (ks : List Kind) (next : ℕ) (f : Frame) (outer : List Frame) (s : State)
    (g : NFrame) (others : List NFrame) (t : NState) : Move State → NTurn → Type 0 where
  begins : (callee : Method) (args words vs ws : List Value) → may_begin callee
      → (let m = t.memory in Frames m.heap [] (first_locals callee (params callee)) (frame_for_call callee args)
      (narrow.frame_for_call (narrowed callee) words)) → (let m = t.memory in Stacks m.heap ks vs ws)
      → CallAgrees by l narrowed may_begin params ks next f outer s g others t
      (On (with_frames (frame_for_call callee args ∷ record f { stack = vs } ∷ outer) s))
      (Next (record t {
        frames = narrow.frame_for_call (narrowed callee) words ∷ record g {
          next = next;
          stack = ws;
        } ∷ others;
      }))
  fails : (fault : Fault) (vs ws : List Value)
      → CallAgrees by l narrowed may_begin params ks next f outer s g others t
      (after_fault by fault (record f { stack = vs }) outer s) (narrow.turn_after_fault (by_label l)
      (narrow_fault fault) (record g { next = next; stack = ws }) others t)

-- a type of numbers of one word
abbrev pub is_number_sort : Sort → Bool
is_number_sort Boolean = true
is_number_sort Byte = true
is_number_sort Short = true
is_number_sort _ = false

-- one word each: numbers are passed for types of numbers, and references for classes and arrays
pub data Passes : List Sort → List Kind → Type 0 where
  no_parameter : Passes [] []
  a_number : {type : Sort} {types : List Sort} {numbers : Span} {ks : List Kind} → is_number_sort type ≡ true
      → Passes types ks → Passes (type ∷ types) (Range numbers ∷ ks)
  a_reference : {kind : Shape (List ℕ)} {types : List Sort} {within : Shape (List ℕ) → Bool} {ks : List Kind}
      → Passes types ks → Passes (Reference kind ∷ types) (Refers within ∷ ks)

-- A method with code, and what is written for it: it takes so many words, and has as many locals.
pub record IsNarrowed (narrowed : Method → Start NMethod) (count : ℕ) (callee : Method) : Type 0 where
  pub has_code : callee.is_abstract ≡ false
  pub is_written : (let m = narrowed callee in m.is_abstract) ≡ false
  pub nargs : (let m = narrowed callee in m.nargs) ≡ count
  pub max_locals : (let m = narrowed callee in m.max_locals) ≡ callee.max_locals - count

-- Code of a class names a static method of the package by `op`, and narrow code names what is written for it.
pub record IsStaticCall (by : Linked) (l : Named) (narrowed : Method → Start NMethod) (holder : List ℕ) (op : ℕ)
    (id : MemberId) (named : Callee) (params : List Kind) : Type 0 where
  pub types : Signature
  pub callee : Method
  pub by_name : by.call holder op id ≡ Some (OnClass (Inside callee))
  pub has_types : signature_of id.desc ≡ Some types
  pub passes : Passes types.params params
  pub narrow_class : on_object named ≡ false
  pub narrow_words : l.words named ≡ Some (length params)
  pub narrow_reached : l.reached named None ≡ Within (narrowed callee)
  pub is_narrowed : IsNarrowed narrowed (length params) callee

-- both look-ups of a call select a method of the package on a receiver of this type
pub record Selects (l : Named) (narrowed : Method → Start NMethod) (selected : List ℕ
    → Option Linked.Callee) (named : Callee) (count : ℕ) (kind : Shape (List ℕ)) : Type 0 where
  pub callee : Method
  pub by_name : selected (shape_name kind) ≡ Some (Inside callee)
  pub narrow : l.reached named (Some kind) ≡ Within (narrowed callee)
  pub is_narrowed : IsNarrowed narrowed count callee

-- Code of a class calls on a receiver by `op`, and narrow code calls what is named, with as many words.
pub record IsReceiverCall (by : Linked) (l : Named) (holder : List ℕ) (op : ℕ) (id : MemberId) (named : Callee)
    (within : Shape (List ℕ) → Bool) (types : Signature) (params : List Kind) : Type 0 where
  pub selected : List ℕ → Option Linked.Callee
  pub by_name : by.call holder op id ≡ Some (OnObject selected)
  pub has_types : signature_of id.desc ≡ Some types
  pub passes : Passes types.params params
  pub narrow_object : on_object named ≡ true
  pub narrow_words : l.words named ≡ Some (length (Refers within ∷ params))

-- A call on a receiver, each type of which selects a method of the package.
pub record IsObjectCall (by : Linked) (l : Named) (narrowed : Method → Start NMethod) (holder : List ℕ) (op : ℕ)
    (id : MemberId) (named : Callee) (within : Shape (List ℕ) → Bool) (params : List Kind) : Type 0 where
  pub types : Signature
  pub call : IsReceiverCall by l holder op id named within types params
  pub selects : (kind : Shape (List ℕ)) → within kind ≡ true → IsMadeOf l kind
      → (let c = call in Selects l narrowed c.selected named (length (Refers within ∷ params)) kind)

-- the methods that a receiver may select
abbrev pub MaySelect : (l : Named) (narrowed : Method → Start NMethod) (selected : List ℕ
    → Option Linked.Callee) (named : Callee) (count : ℕ) (within : Shape (List ℕ) → Bool) → ((kind : Shape (List ℕ))
    → within kind ≡ true → IsMadeOf l kind → Selects l narrowed selected named count kind) → Method → Type 0
MaySelect l narrowed selected named count within selects m = (kind : Shape (List ℕ)) × ((is : within kind ≡ true)
    × ((made : IsMadeOf l kind) × ((let h = selects kind is made in h.callee) ≡ m)))

-- ---- handlers

-- The instruction at this place of narrow code is one that is written for the instruction at an offset.
pub record IsWrittenAt (r : Resolution) (insns : List JInsn) (offset at : ℕ) : Type 0 where
  pub number : ℕ
  pub insn : JInsn
  pub is_there : slice_get insns number ≡ Some insn
  pub is_at : insn.at ≡ offset
  pub behind : ℕ
  pub is_among : behind < length (written_for r (λ o. 0) insn)
  pub place : at ≡ place_in r insns offset + behind

-- Both machines go on in the frame, at a handler and at what is written for its target, with the exception alone on the
-- stack; or the exception passes outwards on both sides.
pub data CatchAgrees (by : Linked) (l : Named) (target_of : ℕ → ℕ) (within : Shape (List ℕ) → Bool) (ls : List Kind)
    (from at object : ℕ) (kind : Shape (List ℕ)) (f : Frame) (outer : List Frame) (s : State) (g : NFrame)
    (others : List NFrame) (t : NState) : Move State → NTurn → Type 0 where
  takes : (target : ℕ)
      → (let m = t.memory in Frames m.heap (Refers within ∷ []) ls (record f {
        at = place (let m = f.method
            in m.insns) target;
        stack = Obj object ∷ [];
      }) (record g { at = target_of target; stack = Obj object ∷ [] }))
      → CatchAgrees by l target_of within ls from at object kind f outer s g others t
      (On (with_frames (record f { at = place (let m = f.method in m.insns) target; stack = Obj object ∷ [] }
      ∷ outer) s)) (Next (record t {
        frames = record g { at = target_of target; stack = Obj object ∷ [] }
            ∷ others;
      }))
  passes : CatchAgrees by l target_of within ls from at object kind f outer s g others t (after_throw by from outer
      object (shape_name kind) s) (narrow.caught (by_label l) at others object kind t)

-- A frame has a method of a class file, and the other what is written for the reached ones of its instructions: its
-- handlers
-- cover what is written, classes are told alike, and there is room for an exception.
pub record HandlesAlike (by : Linked) (l : Named) (r : Resolution) (reached : List JInsn) (kind : Shape (List ℕ))
    (f : Frame) (g : NFrame) : Type 0 where
  pub catches : (let m = g.code in m.catches) ≡ catches_at (place_in r reached) (let m = f.method in m.catches)
  pub is_written : IsWrittenAt r reached (offset f) g.at
  pub tells : (class : List ℕ) → by.subtype (Some (holder_of f)) (shape_name kind) class ≡ l.is_of kind (OfClass class)
  pub has_room : 0 < room f
  pub narrow_has_room : 0 < (let m = g.code in m.max_stack)
