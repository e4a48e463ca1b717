-- A call begins alike on both sides.
use Rattle.std.proofs.Common.{◌≡◌, ℕ, suc, ◌+◌, ◌-◌, refl, sym, ap, subst, ◌∙◌, arith, Bool, true, false, List, [], ◌∷◌}
use Rattle.std.proofs.Common.{◌++◌, length, take, drop, reverse, replicate}
use Rattle.std.specs.Prelude.{Option, Some, None, map, nat_le, slice_get, if◌then◌else◌}
use Rattle.std.proofs.lemmas.Bool.Decides.{nat_tests}
use Rattle.cjc_bytes.specs.declared.fault.MemberId.{MemberId}
use Rattle.cjc_script.specs.declared.value.Value.{Value}
use Rattle.cjc_script.specs.declared.value.Value.TheVariants.{Null, Obj}
use Rattle.cjc_script.specs.declared.report.Thing.{Thing}
use Rattle.cjc_script.specs.Sorts.{Shape, Sort, Signature, shape_name, signature_of}
use Rattle.cjc_card_semantics.specs.Bytecode.Runs.{Move, On}
use Rattle.cjc_card_semantics.specs.Bytecode.Effects.{Invoke, HeapObject, Numbers, References, Object, shape}
use Rattle.cjc_card_semantics.specs.Bytecode.Renaming.{option_as}
use Rattle.cjc_card_semantics.specs.Bytecode.Machine.{Start, Within, Next, StuckAt}
use Rattle.cjc_card_semantics.specs.Bytecode.Machine as narrow
use Rattle.cjc_card_semantics.proofs.BytecodeLaws.Natural.{get_map}
use Rattle.cjc_ncode.specs.declared.narrow.NMethod.{NMethod}
use Rattle.cjc_ncode.specs.ByLabel.{Callee, Named, on_object, by_label}
use Rattle.cjc_jvm_semantics.specs.Linked.{Method, Inside, OnClass, OnObject, Linked}
use Rattle.cjc_jvm_semantics.specs.Linked
use Rattle.cjc_jvm_semantics.specs.Effects.{NullPointer, type_of}
use Rattle.cjc_jvm_semantics.specs.Effects as effects
use Rattle.cjc_jvm_semantics.specs.Machine.{Frame, State, with_frames, frame_for_call, heap_of, holder_of, offset}
use Rattle.cjc_jvm_semantics.specs.Machine.{stuck_at, at_callee, at_selected, on_receiver, with_types, after_lookup}
use Rattle.cjc_jvm_semantics.specs.Machine.{after_effect, after_fault}
use Rattle.cjc_narrow_proof.specs.Selection.Relation.{OnBoth, a_reference as both_reference, Kind, Refers, Heap, Agrees}
use Rattle.cjc_narrow_proof.specs.Selection.Relation.{null, object, Stacks, bottom, cell, Locals, shown, IsMadeOf}
use Rattle.cjc_narrow_proof.specs.Selection.Relation.{Stores}
use Rattle.cjc_narrow_proof.specs.Selection.Rows.{narrow_fault}
use Rattle.cjc_narrow_proof.specs.Selection.Calls.{NFrame, NState, NTurn, Frames, first_locals, CallAgrees, begins}
use Rattle.cjc_narrow_proof.specs.Selection.Calls.{fails, IsNarrowed, IsStaticCall, Passes, Selects, IsReceiverCall}
use Rattle.cjc_narrow_proof.specs.Selection.Calls.{IsObjectCall}
use Rattle.cjc_narrow_proof.proofs.SelectionLaws.Keeps.{made_there}
use Rattle.cjc_narrow_proof.proofs.SelectionLaws.Passed.{passed_plain, passed_length, args_agree, below_agree}
use Rattle.cjc_narrow_proof.proofs.SelectionLaws.Passed.{enough_words, of_sorts, first, both_long, filled}
use Rattle.cjc_narrow_proof.proofs.SelectionLaws.Passed.{receiver_first, receiver_off, receiver_below}

-- an array or object has one type on both sides
pub type_shown : (l : Named) (thing : HeapObject (List ℕ) MemberId) → type_of (shown l thing) ≡ shape_name (shape thing)
unfolding by_label
type_shown l (Numbers element items) = refl
type_shown l (References class items) = refl
type_shown l (Object class slots) = refl

-- what is there on one heap is there on the other
pub thing_shown : (l : Named) (heap : Heap) {things : List Thing} (k : ℕ) (thing : HeapObject (List ℕ) MemberId)
    → things ≡ map (shown l) heap → slice_get heap k ≡ Some thing → slice_get things k ≡ Some (shown l thing)
thing_shown l heap k thing same is = ap (λ h. slice_get h k) same ∙ get_map (shown l) heap k
    ∙ ap (option_as (shown l)) is

-- The frames that begin with arguments that agree.
pub frames_begin : (heap : Heap) (narrowed : Method → Start NMethod) (params : List Kind) → OnBoth params
    → {callee : Method} {args words : List Value} → IsNarrowed narrowed (length params) callee
    → Stacks heap params args words → Frames heap [] (first_locals callee params) (frame_for_call callee args)
    (narrow.frame_for_call (narrowed callee) words)
frames_begin heap narrowed params plain {callee = callee} {args = args} {words = words} is passed =
    let long = both_long plain passed in
    let further = callee.max_locals - length params in
    let whole = (let n = narrowed callee in n.nargs + n.max_locals) in
    let e = is.nargs in let h = is.max_locals in let k = long.1 in
    let size : whole ≡ length words + further = omega arith in
    let narrow_ones : narrow.locals_of (let n = narrowed callee in n.nargs) (let n = narrowed callee in n.max_locals)
    words ≡ map (λ v. Some v) words ++ replicate further None =
    ap (λ n. take n (map (λ v. Some v) words ++ replicate whole None)) size ∙ filled words further whole (omega arith)
    in
    let named_ones : map (λ v. Some v) args ++ replicate (callee.max_locals - length args) None ≡ map (λ v. Some v) args
    ++ replicate further None =
    ap (λ n. map (λ v. Some v) args ++ replicate (callee.max_locals - n) None) long.0 in
    record {
      stack = bottom;
      locals = subst (λ x. Locals heap (first_locals callee params) x (narrow.locals_of (let n = narrowed callee
          in n.nargs) (let n = narrowed callee in n.max_locals) words)) (sym named_ones)
          (subst (Locals heap (first_locals callee params) (map (λ v. Some v) args ++ replicate further None))
          (sym narrow_ones) (first further plain passed));
    }

module _ (by : Linked) (l : Named) (narrowed : Method → Start NMethod) (may_begin : Method → Type 0) (params : Method
    → List Kind) (ks : List Kind) (next : ℕ) (f : Frame) (outer : List Frame) (s : State) (g : NFrame)
    (others : List NFrame) (t : NState) where
  abbrev heap : Heap
  heap = let m = t.memory in m.heap

  abbrev Meets : Move State → NTurn → Type 0
  Meets = CallAgrees by l narrowed may_begin params ks next f outer s g others t

  -- the frames that begin
  entered_agree : {callee : Method} {args words : List Value} → OnBoth (params callee)
      → IsNarrowed narrowed (length (params callee)) callee → Stacks (let m = t.memory in m.heap) (params callee) args
      words → Frames (let m = t.memory in m.heap) [] (first_locals callee (params callee)) (frame_for_call callee args)
      (narrow.frame_for_call (narrowed callee) words)
  entered_agree {callee = callee} plain is passed = frames_begin (let m = t.memory in m.heap) narrowed (params callee)
      plain is passed

  -- what is reached begins
  pub reach_both : {callee : Method} {args words vs ws : List Value} (result : Option Sort) (on : Bool)
      → may_begin callee → OnBoth (params callee) → IsNarrowed narrowed (length (params callee)) callee
      → Stacks (let m = t.memory in m.heap) (params callee) args words → Stacks (let m = t.memory in m.heap) ks vs ws
      → Meets (at_callee by (Some (Inside callee)) result args (record f { stack = vs }) outer s)
      (narrow.reaches (by_label l) (Within (narrowed callee)) on words (record g { next = next; stack = ws }) others
      t)
  reach_both {callee = callee} {args = args} {words = words} {vs = vs} {ws = ws} result on may plain is passed low =
      subst (λ b. Meets (if b then stuck_at (offset (record f { stack = vs })) s
      else On (with_frames (frame_for_call callee args ∷ record f { stack = vs } ∷ outer) s))
      (narrow.reaches (by_label l) (Within (narrowed callee)) on words (record g { next = next; stack = ws }) others
      t)) (sym is.has_code)
      (subst (λ b. Meets (On (with_frames (frame_for_call callee args ∷ record f { stack = vs } ∷ outer) s)) (if b
      then StuckAt g.at t else Next (record t {
        frames = narrow.frame_for_call (narrowed callee) words
            ∷ record g { next = next; stack = ws } ∷ others;
      }))) (sym is.is_written)
      (begins callee args words vs ws may (entered_agree plain is passed) low))

-- A call of a static method takes its arguments from both stacks: what is met there is met by the call.
pub to_static : (by : Linked) (l : Named) (op : ℕ) (id : MemberId) (named : Callee) (types : Signature)
    (params ks : List Kind) (next : ℕ) (f : Frame) (outer : List Frame) (s : State) (g : NFrame) (others : List NFrame)
    (t : NState) (Meets : Move State → NTurn → Type 0) (callee : Linked.Callee)
    → by.call (holder_of f) op id ≡ Some (OnClass callee) → signature_of id.desc ≡ Some types
    → Passes types.params params → on_object named ≡ false → l.words named ≡ Some (length params)
    → Stacks (let m = t.memory in m.heap) (reverse params ++ ks) f.stack g.stack
    → (OnBoth params → (let n = length types.params in Stacks (let m = t.memory in m.heap) params
    (reverse (take n f.stack)) (reverse (take n g.stack)) → Stacks (let m = t.memory in m.heap) ks (drop n f.stack)
    (drop n g.stack)
    → Meets (at_callee by (Some callee) types.result (reverse (take n f.stack)) (record f { stack = drop n f.stack })
    outer s) (narrow.reaches (by_label l) (l.reached named None) false (reverse (take n g.stack))
    (record g { next = next; stack = drop n g.stack }) others t)))
    → Meets (after_effect by (effects.Invoke op id) f outer s) (narrow.made (by_label l) (Invoke named) next g others t)
unfolding by_label
to_static by l op id named types params ks next f outer s g others t Meets callee by_name has_types passes narrow_class
    narrow_words agree go =
    let n = length types.params in
    let count = passed_length passes in
    let plain = passed_plain passes in
    let args = reverse (take n f.stack) in
    let words = reverse (take n g.stack) in
    let passed = args_agree ks n plain count agree in
    let low = below_agree ks n plain count agree in
    let many = enough_words ks n plain count agree in
    let enough : nat_le n (length g.stack) ≡ true = grind (arith, nat_tests) in
    let narrow_side = narrow.made (by_label l) (Invoke named) next g others t in
    let waiting = record g { next = next; stack = drop n g.stack } in
    let named_side = at_callee by (Some callee) types.result args (record f { stack = drop n f.stack }) outer s in
    subst (λ o. Meets (after_lookup by o id f outer s) narrow_side) (sym by_name)
    (subst (λ o. Meets (with_types by (OnClass callee) o f outer s) narrow_side) (sym has_types)
    (subst (λ b. Meets (if b then named_side else stuck_at (offset f) s) narrow_side) (sym (of_sorts passes passed))
    (subst (λ o. Meets named_side (narrow.counted (by_label l) o named (record g { next = next }) others t))
    (sym (narrow_words ∙ ap Some (sym count)))
    (subst (λ b. Meets named_side (if b then narrow.with_args (by_label l) (on_object named) named words waiting others
    t else StuckAt g.at t)) (sym enough)
    (subst (λ b. Meets named_side (narrow.with_args (by_label l) b named words waiting others t)) (sym narrow_class)
    (go plain passed low))))))

-- a static call
pub static_call : (by : Linked) (l : Named) (narrowed : Method → Start NMethod) (may_begin : Method
    → Type 0) (op : ℕ) (id : MemberId) (named : Callee) (params ks ls : List Kind) (next : ℕ) (f : Frame)
    (outer : List Frame) (s : State) (g : NFrame) (others : List NFrame) (t : NState)
    → (call : IsStaticCall by l narrowed (holder_of f) op id named params) → may_begin call.callee
    → Frames (let m = t.memory in m.heap) (reverse params ++ ks) ls f g
    → CallAgrees by l narrowed may_begin (λ m. params) ks next f outer s g others t
    (after_effect by (effects.Invoke op id) f outer s) (narrow.made (by_label l) (Invoke named) next g others t)
static_call by l narrowed may_begin op id named params ks ls next f outer s g others t call may agree =
    let types = call.types in
    let n = length types.params in
    let Meets = CallAgrees by l narrowed may_begin (λ m. params) ks next f outer s g others t in
    to_static by l op id named types params ks next f outer s g others t Meets (Inside call.callee) call.by_name
    call.has_types call.passes call.narrow_class call.narrow_words agree.stack (λ plain passed low.
    subst (λ x. Meets (at_callee by (Some (Inside call.callee)) types.result (reverse (take n f.stack))
    (record f { stack = drop n f.stack }) outer s) (narrow.reaches (by_label l) x false (reverse (take n g.stack))
    (record g { next = next; stack = drop n g.stack }) others t)) (sym call.narrow_reached)
    (reach_both by l narrowed may_begin (λ m. params) ks next f outer s g others t types.result false may plain
    call.is_narrowed passed low))

-- ---- a call on a receiver

-- what an array or object of a type selects is reached on both sides; null raises
module _ (by : Linked) (l : Named) (named : Callee) (within : Shape (List ℕ) → Bool) (params ks : List Kind) (next : ℕ)
    (f : Frame) (outer : List Frame) (s : State) (g : NFrame) (others : List NFrame) (t : NState) (Meets : Move State
    → NTurn → Type 0) (selected : List ℕ → Option Linked.Callee) (result : Option Sort) (stores : Stores l s.store
    t.memory)
    (null_raises : (vs ws : List Value) → Meets (after_fault by NullPointer (record f { stack = vs }) outer s)
    (narrow.turn_after_fault (by_label l) (narrow_fault NullPointer) (record g { next = next; stack = ws }) others
    t))
    (reaches : (k : ℕ) (thing : HeapObject (List ℕ) MemberId) → slice_get (let m = t.memory in m.heap) k ≡ Some thing
    → within (shape thing) ≡ true → IsMadeOf l (shape thing) → (args words vs ws : List Value)
    → Stacks (let m = t.memory in m.heap) params args words → Stacks (let m = t.memory in m.heap) ks vs ws
    → Meets (at_callee by (selected (shape_name (shape thing))) result (Obj k ∷ args) (record f { stack = vs }) outer s)
    (narrow.reaches (by_label l) (l.reached named (Some (shape thing))) true (Obj k ∷ words)
    (record g { next = next; stack = ws }) others t)) where
  -- by the type of the receiver
  select_both : (k : ℕ) (thing : HeapObject (List ℕ) MemberId) → slice_get (let m = t.memory in m.heap) k ≡ Some thing
      → within (shape thing) ≡ true → (args words vs ws : List Value) → Stacks (let m = t.memory in m.heap) params args
      words → Stacks (let m = t.memory in m.heap) ks vs ws
      → Meets (at_selected by selected (slice_get (heap_of s) k) result (Obj k ∷ args) (record f { stack = vs }) outer
      s) (narrow.reaches_on (by_label l) named (slice_get (let m = t.memory in m.heap) k) (Obj k ∷ words)
      (record g { next = next; stack = ws }) others t)
  unfolding by_label
  select_both k thing is passes args words vs ws passed low =
      let waits = record f { stack = vs } in
      let waiting = record g { next = next; stack = ws } in
      let narrow_side = narrow.reaches_on (by_label l) named (slice_get (let m = t.memory in m.heap) k) (Obj k ∷ words)
      waiting others t in
      subst (λ o. Meets (at_selected by selected o result (Obj k ∷ args) waits outer s) narrow_side)
      (sym (thing_shown l (let m = t.memory in m.heap) k thing stores.heap is))
      (subst (λ name. Meets (at_callee by (selected name) result (Obj k ∷ args) waits outer s) narrow_side)
      (sym (type_shown l thing))
      (subst (λ o. Meets (at_callee by (selected (shape_name (shape thing))) result (Obj k ∷ args) waits outer s)
      (narrow.reaches_on (by_label l) named o (Obj k ∷ words) waiting others t)) (sym is)
      (reaches k thing is passes (made_there l thing (stores.heap_fits k thing is)) args words vs ws passed low)))

  -- with the receiver below the arguments
  pub receive_both : (n : ℕ) (vs ws vs' ws' : List Value) → drop n vs ≡ vs' → drop n ws ≡ ws'
      → Stacks (let m = t.memory in m.heap) params (reverse (take n vs)) (reverse (take n ws))
      → Stacks (let m = t.memory in m.heap) (Refers within ∷ ks) vs' ws'
      → Meets (on_receiver by selected vs' result (reverse (take n vs)) (record f { stack = vs' }) outer s)
      (narrow.on_receiver (by_label l) named (reverse (take (suc n) ws)) (record g {
        next = next;
        stack = drop (suc n) ws;
      }) others t)
  receive_both n vs ws _ _ off off' passed (cell {v = v} {w = w} {vs = below} {ws = below'} agree low) =
      subst (λ words. Meets (on_receiver by selected (v ∷ below) result (reverse (take n vs)) (record f {
        stack = v
            ∷ below;
      }) outer s) (narrow.on_receiver (by_label l) named words (record g {
        next = next;
        stack = drop (suc n) ws;
      }) others t)) (sym (receiver_first n ws off'))
      (subst (λ rest. Meets (on_receiver by selected (v ∷ below) result (reverse (take n vs)) (record f {
        stack = v
            ∷ below;
      }) outer s) (narrow.on_receiver (by_label l) named (w ∷ reverse (take n ws)) (record g {
        next = next;
        stack = rest;
      }) others t)) (sym (receiver_off n ws off'))
      (by_value v w agree))
    where
      by_value : (v w : Value) → Agrees (let m = t.memory in m.heap) (Refers within) v w
          → Meets (on_receiver by selected (v ∷ below) result (reverse (take n vs)) (record f { stack = v ∷ below })
          outer s) (narrow.on_receiver (by_label l) named (w ∷ reverse (take n ws)) (record g {
            next = next;
            stack = below';
          }) others t)
      by_value _ _ null = null_raises (Null ∷ below) below'
      by_value _ _ (object {k = k} thing is passes) = select_both k thing is passes (reverse (take n vs))
          (reverse (take n ws)) below below' passed low

-- A call on a receiver takes its arguments and the receiver from both stacks: what is met there is met by the call.
pub to_receiver : (by : Linked) (l : Named) (op : ℕ) (id : MemberId) (named : Callee) (within : Shape (List ℕ)
    → Bool) (types : Signature) (params ks : List Kind) (next : ℕ) (f : Frame) (outer : List Frame) (s : State)
    (g : NFrame) (others : List NFrame) (t : NState) (Meets : Move State → NTurn → Type 0)
    → (call : IsReceiverCall by l (holder_of f) op id named within types params)
    → Stacks (let m = t.memory in m.heap) (reverse (Refers within ∷ params) ++ ks) f.stack g.stack
    → (OnBoth params → (let n = length types.params in Stacks (let m = t.memory in m.heap) params
    (reverse (take n f.stack)) (reverse (take n g.stack)) → Stacks (let m = t.memory in m.heap) (Refers within
    ∷ ks) (drop n f.stack) (drop n g.stack)
    → Meets (on_receiver by call.selected (drop n f.stack) types.result (reverse (take n f.stack))
    (record f { stack = drop n f.stack }) outer s) (narrow.on_receiver (by_label l) named
    (reverse (take (suc n) g.stack)) (record g { next = next; stack = drop (suc n) g.stack }) others t)))
    → Meets (after_effect by (effects.Invoke op id) f outer s) (narrow.made (by_label l) (Invoke named) next g others t)
unfolding by_label
to_receiver by l op id named within types params ks next f outer s g others t Meets call agree go =
    let n = length types.params in
    let count = passed_length call.passes in
    let plain = passed_plain call.passes in
    let below : Stacks (let m = t.memory in m.heap) (reverse params ++ (Refers within ∷ ks)) f.stack g.stack =
    subst (λ kinds. Stacks (let m = t.memory in m.heap) kinds f.stack g.stack) (receiver_below within params ks)
    agree in
    let passed = args_agree (Refers within ∷ ks) n plain count below in
    let rest = below_agree (Refers within ∷ ks) n plain count below in
    let many = enough_words ks (suc n) (both_reference plain) (ap suc count) agree in
    let enough : nat_le (suc n) (length g.stack) ≡ true = grind (arith, nat_tests) in
    let narrow_side = narrow.made (by_label l) (Invoke named) next g others t in
    let words = reverse (take (suc n) g.stack) in
    let waiting = record g { next = next; stack = drop (suc n) g.stack } in
    let args = reverse (take n f.stack) in
    let named_side = on_receiver by call.selected (drop n f.stack) types.result args
    (record f { stack = drop n f.stack }) outer s in
    subst (λ o. Meets (after_lookup by o id f outer s) narrow_side) (sym call.by_name)
    (subst (λ o. Meets (with_types by (OnObject call.selected) o f outer s) narrow_side) (sym call.has_types)
    (subst (λ b. Meets (if b then named_side else stuck_at (offset f) s) narrow_side)
    (sym (of_sorts call.passes passed))
    (subst (λ o. Meets named_side (narrow.counted (by_label l) o named (record g { next = next }) others t))
    (sym (call.narrow_words ∙ ap (λ k. Some (suc k)) (sym count)))
    (subst (λ b. Meets named_side (if b then narrow.with_args (by_label l) (on_object named) named words waiting others
    t else StuckAt g.at t)) (sym enough)
    (subst (λ b. Meets named_side (narrow.with_args (by_label l) b named words waiting others t))
    (sym call.narrow_object)
    (go plain passed rest))))))

-- a method of the package that a receiver of a type selects begins
pub selected_both : (by : Linked) (l : Named) (narrowed : Method → Start NMethod) (may_begin : Method
    → Type 0) (named : Callee) (within : Shape (List ℕ) → Bool) (receives : Method → Shape (List ℕ)
    → Bool) (params ks : List Kind) (next : ℕ) (f : Frame) (outer : List Frame) (s : State) (g : NFrame)
    (others : List NFrame) (t : NState) → OnBoth params
    → (selected : List ℕ → Option Linked.Callee) (result : Option Sort) (k : ℕ) (thing : HeapObject (List ℕ) MemberId)
    → slice_get (let m = t.memory in m.heap) k ≡ Some thing
    → (h : Selects l narrowed selected named (length (Refers within ∷ params)) (shape thing))
    → receives h.callee (shape thing) ≡ true → may_begin h.callee → (args words vs ws : List Value)
    → Stacks (let m = t.memory in m.heap) params args words → Stacks (let m = t.memory in m.heap) ks vs ws
    → CallAgrees by l narrowed may_begin (λ m. Refers (receives m) ∷ params) ks next f outer s g others t
    (at_callee by (selected (shape_name (shape thing))) result (Obj k ∷ args) (record f { stack = vs }) outer s)
    (narrow.reaches (by_label l) (l.reached named (Some (shape thing))) true (Obj k ∷ words)
    (record g { next = next; stack = ws }) others t)
selected_both by l narrowed may_begin named within receives params ks next f outer s g others t plain selected result k
    thing is h passes may args words vs ws passed low =
    let Meets = CallAgrees by l narrowed may_begin (λ m. Refers (receives m) ∷ params) ks next f outer s g others t in
    let waits = record f { stack = vs } in
    let waiting = record g { next = next; stack = ws } in
    subst (λ o. Meets (at_callee by o result (Obj k ∷ args) waits outer s) (narrow.reaches (by_label l)
    (l.reached named (Some (shape thing))) true (Obj k ∷ words) waiting others t)) (sym h.by_name)
    (subst (λ x. Meets (at_callee by (Some (Inside h.callee)) result (Obj k ∷ args) waits outer s)
    (narrow.reaches (by_label l) x true (Obj k ∷ words) waiting others t)) (sym h.narrow)
    (reach_both by l narrowed may_begin (λ m. Refers (receives m) ∷ params) ks next f outer s g others t result true may
    (both_reference plain) h.is_narrowed (cell (object thing is passes) passed) low))

-- a call on a receiver
pub object_call : (by : Linked) (l : Named) (narrowed : Method → Start NMethod) (may_begin : Method
    → Type 0) (op : ℕ) (id : MemberId) (named : Callee) (within : Shape (List ℕ) → Bool) (receives : Method
    → Shape (List ℕ) → Bool) (params ks ls : List Kind) (next : ℕ) (f : Frame) (outer : List Frame) (s : State)
    (g : NFrame) (others : List NFrame) (t : NState)
    → (call : IsObjectCall by l narrowed (holder_of f) op id named within params)
    → ((kind : Shape (List ℕ)) (is : within kind ≡ true) (made : IsMadeOf l kind) → let h = call.selects kind is made
    in receives h.callee kind ≡ true) → ((kind : Shape (List ℕ)) (is : within kind ≡ true) (made : IsMadeOf l kind)
    → let h = call.selects kind is made in may_begin h.callee) → Stores l s.store t.memory
    → Frames (let m = t.memory in m.heap) (reverse (Refers within ∷ params) ++ ks) ls f g
    → CallAgrees by l narrowed may_begin (λ m. Refers (receives m) ∷ params) ks next f outer s g others t
    (after_effect by (effects.Invoke op id) f outer s) (narrow.made (by_label l) (Invoke named) next g others t)
object_call by l narrowed may_begin op id named within receives params ks ls next f outer s g others t call received may
    stores agree =
    let types = call.types in
    let on = call.call in
    let Meets = CallAgrees by l narrowed may_begin (λ m. Refers (receives m) ∷ params) ks next f outer s g others t in
    to_receiver by l op id named within types params ks next f outer s g others t Meets on agree.stack
    (λ plain passed rest.
    receive_both by l named within params ks next f outer s g others t Meets on.selected types.result stores
    (fails NullPointer)
    (λ k thing is passes made. selected_both by l narrowed may_begin named within receives params ks next f outer s g
    others t plain on.selected types.result k thing is (call.selects (shape thing) passes made)
    (received (shape thing) passes made) (may (shape thing) passes made))
    (length types.params) f.stack g.stack (drop (length types.params) f.stack) (drop (length types.params) g.stack) refl
    refl passed rest)
