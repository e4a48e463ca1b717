-- When a call of an imported method is noted, answered and gone on from alike.
use Rattle.std.specs.Prelude.{◌≡◌, ℕ, ◌+◌, List, [], ◌∷◌, ◌++◌, length, Option, Some, None, Bool, true, false, ◌&&◌}
use Rattle.std.specs.Prelude.{if◌then◌else◌, codes}
use Rattle.cjc_bytes.specs.declared.fault.MemberId.{MemberId}
use Rattle.cjc_script.specs.declared.value.Value.{Value}
use Rattle.cjc_script.specs.declared.report.Outcome.TheVariants.{Waiting, Unfit}
use Rattle.cjc_script.specs.Sorts.{Shape, OfClass, Sort, Reference, Signature, shape_name, signature_of}
use Rattle.cjc_card_semantics.specs.Bytecode.Runs.{Move, On, Over}
use Rattle.cjc_card_semantics.specs.Bytecode.Machine.{Next, Ended, Abroad, shape_of, turn_after_fault, turn_after_raise}
use Rattle.cjc_ncode.specs.ByLabel.{Callee, Named, on_object, by_label}
use Rattle.cjc_jvm_semantics.specs.Linked.{OnClass, Linked}
use Rattle.cjc_jvm_semantics.specs.Linked
use Rattle.cjc_jvm_semantics.specs.Effects.{NullPointer}
use Rattle.cjc_jvm_semantics.specs.Machine.{Frame, State, with_frames, report, after_fault, after_raise}
use Rattle.cjc_narrow_proof.specs.Selection.Relation.{Kind, Heap, Stacks, Locals, IsMadeOf, Stores}
use Rattle.cjc_narrow_proof.specs.Selection.Rows.{kind_of, is_word_sort, narrow_fault}
use Rattle.cjc_narrow_proof.specs.Selection.Calls.{NFrame, NState, NTurn, Passes, IsReceiverCall}
use Rattle.cjc_narrow_proof.specs.Selection.Throws.{nheap, HandleAlike, Raises}
use Rattle.cjc_narrow_proof.specs.Selection.Results.{AreShort}
use Rattle.cjc_narrow_proof.specs.Selection.Acts.{Keeps, ActsAlike}

-- the same is stored, left of the script and noted on both sides
pub record StatesAgree (l : Named) (s : State) (t : NState) : Type 0 where
  pub stores : Stores l s.store t.memory
  pub entries : s.entries ≡ t.entries
  pub answers : s.answers ≡ t.answers
  pub notes : s.notes ≡ t.notes

-- ---- what the script asks of types

-- a type is of another that may not be there
abbrev pub is_of_some : Named → Shape (List ℕ) → Option (Shape (List ℕ)) → Bool
is_of_some l of None = false
is_of_some l of (Some kind) = l.is_of of kind

-- What is of a type that a descriptor names is told alike.
pub record AsksAlike (by : Linked) (l : Named) (kind : Shape (List ℕ)) : Type 0 where
  pub tells : (of : Shape (List ℕ)) → by.subtype None (shape_name of) (shape_name kind)
      ≡ is_of_some l of (shape_of (by_label l) kind)
  pub same : (other : Shape (List ℕ)) → shape_of (by_label l) kind ≡ Some other → other ≡ kind

-- an imported class that is java/lang/Throwable or below it
abbrev pub may_be_thrown : Linked → List ℕ → Bool
may_be_thrown by class = by.is_imported class && by.subtype None class (codes "java/lang/Throwable")

-- The same classes may be thrown by an answer; they are imported, so that their objects are without fields.
pub record ThrowsAlike (by : Linked) (l : Named) (class : List ℕ) : Type 0 where
  pub tells : l.throwable class ≡ (if may_be_thrown by class then Some class else None)
  pub imported : may_be_thrown by class ≡ true → l.imported class ≡ Some class

-- ---- calls of imported methods

-- what a result is on the stack
abbrev pub result_kinds : Named → Option Sort → List Kind
result_kinds l None = []
result_kinds l (Some sort) = kind_of l sort ∷ []

-- An imported method, and the member that its event names, of the same descriptor: references and numbers of 16 bits
-- are passed for
-- its parameters, and its result is one word.
pub record IsImport (by : Linked) (l : Named) (id event : MemberId) (types : Signature) (params : List Kind) :
    Type 0 where
  pub desc : event.desc ≡ id.desc
  pub has_types : signature_of id.desc ≡ Some types
  pub passes : Passes types.params params
  pub short : AreShort params
  pub one_word : (sort : Sort) → types.result ≡ Some sort → is_word_sort sort ≡ true
  pub asks : (kind : Shape (List ℕ)) → types.result ≡ Some (Reference kind) → AsksAlike by l kind

-- Code of a class names a static imported method by `op`, and narrow code names the same.
pub record IsStaticImport (by : Linked) (l : Named) (holder : List ℕ) (op : ℕ) (id event : MemberId) (named : Callee)
    (types : Signature) (params : List Kind) : Type 0 where
  pub is : IsImport by l id event types params
  pub by_name : by.call holder op id ≡ Some (OnClass (Linked.Abroad event))
  pub narrow_class : on_object named ≡ false
  pub narrow_words : l.words named ≡ Some (length params)
  pub narrow_reached : l.reached named None ≡ Abroad event

-- both look-ups of a call select an imported method on a receiver of this type
pub record SelectsImport (by : Linked) (l : Named) (selected : List ℕ → Option Linked.Callee) (id : MemberId)
    (named : Callee) (types : Signature) (params : List Kind) (kind : Shape (List ℕ)) : Type 0 where
  pub event : MemberId
  pub is : IsImport by l id event types params
  pub by_name : selected (shape_name kind) ≡ Some (Linked.Abroad event)
  pub narrow : l.reached named (Some kind) ≡ Abroad event

-- A call on a receiver, each type of which selects an imported method.
pub record IsObjectImport (by : Linked) (l : Named) (holder : List ℕ) (op : ℕ) (id : MemberId) (named : Callee)
    (within : Shape (List ℕ) → Bool) (types : Signature) (params : List Kind) : Type 0 where
  pub call : IsReceiverCall by l holder op id named within types params
  pub selects : (kind : Shape (List ℕ)) → within kind ≡ true → IsMadeOf l kind
      → (let c = call in SelectsImport by l c.selected id named types params kind)

-- ---- what follows

-- Both machines go on behind the call, with a result that agrees; or an object of a class that an answer throws is made
-- and goes outwards,
-- where `Lands` says what that leads to; or both are over, since no answer is left or it does not fit. What was on a
-- heap has its type.
pub data Replies (by : Linked) (l : Named) (Lands : (class : List ℕ) → State → NState → Move State → NTurn
    → Type 0) (heap : Heap) (kinds ks ls : List Kind) (f : Frame) (outer : List Frame) (g : NFrame)
    (others : List NFrame) : Move State → NTurn → Type 0 where
  goes_on : {s : State} {t : NState} {vs ws : List Value} → StatesAgree l s t → Keeps heap (nheap t)
      → Stacks (nheap t) (kinds ++ ks) vs ws → Locals (nheap t) ls f.locals g.locals
      → Replies by l Lands heap kinds ks ls f outer g others (On (with_frames (record f { at = f.at + 1; stack = vs }
      ∷ outer) s)) (Next (record t { frames = record g { at = g.next; stack = ws } ∷ others }))
  throws : {s : State} {t : NState} {m : Move State} {n : NTurn} (class : List ℕ) → Lands class s t m n
      → Replies by l Lands heap kinds ks ls f outer g others m n
  waits : {s : State} {t : NState} → StatesAgree l s t → Replies by l Lands heap kinds ks ls f outer g others
      (Over (report Waiting s)) (Ended Waiting t)
  is_unfit : {s : State} {t : NState} (number : ℕ) → StatesAgree l s t → Replies by l Lands heap kinds ks ls f outer g
      others (Over (report (Unfit number) s)) (Ended (Unfit number) t)

-- What a script does is done alike: acts, and answers that throw, each class that may be thrown where `Lands` says.
pub record AnswersLand (by : Linked) (l : Named) (Lands : (class : List ℕ) → State → NState → Move State → NTurn
    → Type 0) (heap : Heap) (f : Frame) (outer : List Frame) (g : NFrame) (others : List NFrame) : Type 0 where
  pub acts : ActsAlike by l
  pub throws : (class : List ℕ) → ThrowsAlike by l class
  pub lands : (class : List ℕ) → may_be_thrown by class ≡ true → (s : State) (t : NState) → StatesAgree l s t
      → Keeps heap (nheap t) → (otherwise : NTurn) → Lands class s t (after_raise by class f outer s)
      (turn_after_raise (by_label l) (Some class) g others t otherwise)

-- An object of a class is made on both sides, where states agree, and goes outwards alike.
pub record RaisesAlike (by : Linked) (l : Named) (f : Frame) (outer : List Frame) (g : NFrame) (others : List NFrame)
    (class : List ℕ) (s : State) (t : NState) (m : Move State) (n : NTurn) : Type 0 where
  pub agree : StatesAgree l s t
  pub raises : (within : Shape (List ℕ) → Bool) → within (OfClass class) ≡ true
      → Raises by l within class s t (f ∷ outer) (g ∷ others) m n

-- What a script does is done alike: acts, and answers that throw, into frames that handle each class alike that may be
-- thrown.
pub record AnswersAlike (by : Linked) (l : Named) (t : NState) (f : Frame) (outer : List Frame) (g : NFrame)
    (others : List NFrame) : Type 0 where
  pub acts : ActsAlike by l
  pub throws : (class : List ℕ) → ThrowsAlike by l class
  pub handle : (class : List ℕ) → may_be_thrown by class ≡ true → HandleAlike by l (nheap t) (OfClass class) (f ∷ outer)
      (g ∷ others)

-- A call on a receiver: null raises in the frame that calls, and else the imported method is noted and answered.
pub data ImportAgrees (by : Linked) (l : Named) (kinds ks ls : List Kind) (next : ℕ) (f : Frame) (outer : List Frame)
    (s : State) (g : NFrame) (others : List NFrame) (t : NState) : Move State → NTurn → Type 0 where
  is_null : (vs ws : List Value) → ImportAgrees by l kinds ks ls next f outer s g others t (after_fault by NullPointer
      (record f { stack = vs }) outer s) (turn_after_fault (by_label l) (narrow_fault NullPointer)
      (record g { next = next; stack = ws }) others t)
  is_answered : (vs ws : List Value) {m : Move State} {n : NTurn}
      → Replies by l (RaisesAlike by l (record f { stack = vs }) outer (record g { next = next; stack = ws }) others)
      (nheap t) kinds ks ls (record f { stack = vs }) outer (record g { next = next; stack = ws }) others m n
      → ImportAgrees by l kinds ks ls next f outer s g others t m n
