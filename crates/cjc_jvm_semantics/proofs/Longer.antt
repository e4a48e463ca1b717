-- More instructions change nothing of a run that is over, and take back no note: two laws of one turn, for every record
-- of look-ups.
use Rattle.std.proofs.Common.{◌≡◌, ℕ, refl, sym, subst, Bool, true, false, List, [], ◌∷◌, ◌++◌, length, take}
use Rattle.std.proofs.Common.{drop, reverse}
use Rattle.std.specs.Prelude.{Option, Some, None, slice_get, nat_le, nat_lt, ◌&&◌, if◌then◌else◌, ◌≢◌, codes}
use Rattle.cjc_code.specs.Bytes.declared.fault.MemberId.{MemberId}
use Rattle.cjc_code.specs.declared.insn.JInsn.{JInsn}
use Rattle.cjc_script.specs.declared.value.Value.{Value}
use Rattle.cjc_script.specs.declared.value.Value.TheVariants.{Num, Null, Obj}
use Rattle.cjc_script.specs.declared.script.Act.{Act}
use Rattle.cjc_script.specs.declared.script.Entry.{Entry}
use Rattle.cjc_script.specs.declared.script.Reply.{Reply}
use Rattle.cjc_script.specs.declared.script.Reply.TheVariants.{Give, Throw}
use Rattle.cjc_script.specs.declared.script.Answer.{Answer}
use Rattle.cjc_script.specs.declared.report.Thing.{Thing}
use Rattle.cjc_script.specs.declared.report.Thing.TheVariants.{Object}
use Rattle.cjc_script.specs.declared.report.Note.{Note}
use Rattle.cjc_script.specs.declared.report.Note.TheVariants.{Event, Result, Thrown}
use Rattle.cjc_script.specs.declared.report.Outcome.{Outcome}
use Rattle.cjc_script.specs.declared.report.Outcome.TheVariants.{Done, Running, Waiting, Unfit, Stuck}
use Rattle.cjc_script.specs.declared.report.Report.{Report}
use Rattle.cjc_script.specs.Sorts.{Sort, Signature, signature_of, result_fits}
use Rattle.cjc_script.specs.Agree.{IsBegun}
use Rattle.cjc_card_semantics.specs.Bytecode.Runs.{Move, On, Over, Lawful}
use Rattle.cjc_card_semantics.proofs.BytecodeLaws.Longer.{Keeps, lawful, same_notes, begun_trans}
use Rattle.cjc_jvm_semantics.specs.Linked.{Method, Callee, Inside, Abroad, Call, OnClass, OnObject, Linked}
use Rattle.cjc_jvm_semantics.specs.Effects.{Fault, NullPointer, exception_class, type_of, place, Effect, Go, Raise}
use Rattle.cjc_jvm_semantics.specs.Effects.{Toss, Invoke, Leave, Stick, effect}
use Rattle.cjc_jvm_semantics.specs.Machine.{Frame, State, report, heap_of, with_heap, with_last, with_note, with_frames}
use Rattle.cjc_jvm_semantics.specs.Machine.{offset, room, stuck_at, frame_for_call, behind_call, values_of}
use Rattle.cjc_jvm_semantics.specs.Machine.{after_result, is_at_once, are_of_sorts}
use Rattle.cjc_jvm_semantics.specs.Machine

-- the notes of a move begin with these
abbrev Adds : List Note → Move State → Type 0
Adds notes (On s) = IsBegun notes s.notes
Adds notes (Over r) = IsBegun notes r.notes

adds_more : (a b : List Note) (t : Move State) → IsBegun a b → Adds b t → Adds a t
adds_more a b (On s) h k = begun_trans a b s.notes h k
adds_more a b (Over r) h k = begun_trans a b r.notes h k

after_result_adds : (from : ℕ) (v : Option Value) (f : Frame) (outer : List Frame) (s : State)
    → Adds s.notes (after_result from v f outer s)
after_result_adds from v f outer s = by (nat_le (length (values_of v ++ f.stack)) (room f))
  where
    by : (t : Bool) → Adds s.notes (if t then On (with_frames (behind_call (values_of v) f ∷ outer) s)
        else stuck_at from s)
    by true = same_notes s.notes
    by false = same_notes s.notes

module _ (l : Linked) where
  -- ---- exceptions

  after_throw_adds : (from : ℕ) (frames : List Frame) (object : ℕ) (type : List ℕ) (s : State)
      → Adds s.notes (Machine.after_throw l from frames object type s)
  after_throw_adds from [] object type s = (Thrown type object ∷ [], refl)
  after_throw_adds from (f ∷ outer) object type s = by (Machine.handler_in l f type) (after_throw_adds from outer object
      type s)
    where
      has_room : (t : Bool) (target : ℕ)
          → Adds s.notes (if t then On (with_frames (record f {
            at = place (let m = f.method in m.insns) target;
            stack = Obj object ∷ [];
          } ∷ outer) s) else stuck_at from s)
      has_room true target = same_notes s.notes
      has_room false target = same_notes s.notes

      by : (o : Option ℕ) → Adds s.notes (Machine.after_throw l from outer object type s)
          → Adds s.notes (Machine.at_handler l o from f outer object s (Machine.after_throw l from outer object type s))
      by None past = past
      by (Some target) past = has_room (nat_lt 0 (room f)) target

  after_raise_adds : (class : List ℕ) (f : Frame) (outer : List Frame) (s : State)
      → Adds s.notes (Machine.after_raise l class f outer s)
  after_raise_adds class f outer s = after_throw_adds (offset f) (f ∷ outer) (length (heap_of s)) class
      (with_last (Object class []) s)

  after_fault_adds : (fault : Fault) (f : Frame) (outer : List Frame) (s : State)
      → Adds s.notes (Machine.after_fault l fault f outer s)
  after_fault_adds fault f outer s = after_raise_adds (exception_class fault) f outer s

  after_athrow_adds : (o : Option Thing) (f : Frame) (outer : List Frame) (object : ℕ) (s : State)
      → Adds s.notes (Machine.after_athrow l o f outer object s)
  after_athrow_adds None f outer object s = same_notes s.notes
  after_athrow_adds (Some thing) f outer object s = after_throw_adds (offset f) (f ∷ outer) object (type_of thing) s

  -- ---- acts of the script

  after_acts_adds : (acts : List Act) (number : ℕ) (s : State) (go : State → Move State)
      → ((t : State) → t.notes ≡ s.notes → Adds s.notes (go t)) → Adds s.notes (Machine.after_acts l acts number s go)
  after_acts_adds [] number s go h = h s refl
  after_acts_adds (a ∷ acts) number s go h = by (Machine.heap_after_act l a (heap_of s)) (λ heap. after_acts_adds acts
      number (with_heap heap s) go h)
    where
      by : (o : Option (List Thing)) → ((heap : List Thing)
          → Adds s.notes (Machine.after_acts l acts number (with_heap heap s) go))
          → Adds s.notes (Machine.after_act l o number s (λ t. Machine.after_acts l acts number t go))
      by None later = same_notes s.notes
      by (Some heap) later = later heap

  -- ---- imported calls

  after_reply_adds : (r : Reply) (number : ℕ) (result : Option Sort) (f : Frame) (outer : List Frame) (s : State)
      → Adds s.notes (Machine.after_reply l r number result f outer s)
  after_reply_adds (Give v) number result f outer s = by (result_fits (Machine.object_fits l (heap_of s)) result v)
    where
      by : (t : Bool) → Adds s.notes (if t then after_result (offset f) v f outer s else Over (report (Unfit number) s))
      by true = after_result_adds (offset f) v f outer s
      by false = same_notes s.notes
  after_reply_adds (Throw class) number result f outer s = by (l.is_imported class
      && l.subtype None class (codes "java/lang/Throwable"))
    where
      by : (t : Bool) → Adds s.notes (if t then Machine.after_raise l class f outer s
          else Over (report (Unfit number) s))
      by true = after_raise_adds class f outer s
      by false = same_notes s.notes

  after_answer_adds : (answers : List Answer) (result : Option Sort) (f : Frame) (outer : List Frame) (s : State)
      → Adds s.notes (Machine.after_answer l answers result f outer s)
  after_answer_adds [] result f outer s = same_notes s.notes
  after_answer_adds (a ∷ answers) result f outer s =
      after_acts_adds a.acts a.number (record s { answers = answers }) _
      (λ t e. subst (λ n. Adds n (Machine.after_reply l a.reply a.number result f outer t)) e
      (after_reply_adds a.reply a.number result f outer t))

  imported_call_adds : (id : MemberId) (result : Option Sort) (args : List Value) (f : Frame) (outer : List Frame)
      (s : State) → Adds s.notes (Machine.imported_call l id result args f outer s)
  imported_call_adds id result args f outer s = by (is_at_once id)
    where
      by : (t : Bool) → Adds s.notes (if t then after_result (offset f) None f outer s
          else Machine.after_answer l s.answers result f outer (with_note (Event id args) s))
      by true = after_result_adds (offset f) None f outer s
      by false = adds_more s.notes (s.notes ++ Event id args ∷ []) _ (
        Event id args ∷ [],
        refl,
      ) (after_answer_adds s.answers result f outer (with_note (Event id args) s))

  -- ---- calls

  inside_adds : (m : Method) (args : List Value) (f : Frame) (outer : List Frame) (s : State) → (t : Bool)
      → Adds s.notes (if t then stuck_at (offset f) s else On (with_frames (frame_for_call m args ∷ f ∷ outer) s))
  inside_adds m args f outer s true = same_notes s.notes
  inside_adds m args f outer s false = same_notes s.notes

  at_callee_adds : (o : Option Callee) (result : Option Sort) (args : List Value) (f : Frame) (outer : List Frame)
      (s : State) → Adds s.notes (Machine.at_callee l o result args f outer s)
  at_callee_adds None result args f outer s = same_notes s.notes
  at_callee_adds (Some (Inside m)) result args f outer s = inside_adds m args f outer s m.is_abstract
  at_callee_adds (Some (Abroad id)) result args f outer s = imported_call_adds id result args f outer s

  at_selected_adds : (selected : List ℕ → Option Callee) (o : Option Thing) (result : Option Sort) (args : List Value)
      (f : Frame) (outer : List Frame) (s : State) → Adds s.notes (Machine.at_selected l selected o result args f outer
      s)
  at_selected_adds selected None result args f outer s = same_notes s.notes
  at_selected_adds selected (Some thing) result args f outer s = at_callee_adds (selected (type_of thing)) result args f
      outer s

  on_receiver_adds : (selected : List ℕ → Option Callee) (stack : List Value) (result : Option Sort) (args : List Value)
      (f : Frame) (outer : List Frame) (s : State)
      → Adds s.notes (Machine.on_receiver l selected stack result args f outer s)
  on_receiver_adds selected [] result args f outer s = same_notes s.notes
  on_receiver_adds selected (Num x ∷ stack) result args f outer s = same_notes s.notes
  on_receiver_adds selected (Null ∷ stack) result args f outer s = after_fault_adds NullPointer f outer s
  on_receiver_adds selected (Obj k ∷ stack) result args f outer s =
      at_selected_adds selected (slice_get (heap_of s) k) result (Obj k ∷ args) (record f { stack = stack }) outer s

  at_call_adds : (call : Call) (result : Option Sort) (args : List Value) (f : Frame) (outer : List Frame) (s : State)
      → Adds s.notes (Machine.at_call l call result args f outer s)
  at_call_adds (OnClass callee) result args f outer s = at_callee_adds (Some callee) result args f outer s
  at_call_adds (OnObject selected) result args f outer s = on_receiver_adds selected f.stack result args f outer s

  with_types_adds : (call : Call) (o : Option Signature) (f : Frame) (outer : List Frame) (s : State)
      → Adds s.notes (Machine.with_types l call o f outer s)
  with_types_adds call None f outer s = same_notes s.notes
  with_types_adds call (Some types) f outer s =
      by (are_of_sorts types.params (reverse (take (length types.params) f.stack)))
    where
      by : (t : Bool)
          → Adds s.notes (if t then Machine.at_call l call types.result (reverse (take (length types.params) f.stack))
          (record f { stack = drop (length types.params) f.stack }) outer s else stuck_at (offset f) s)
      by true = at_call_adds call types.result (reverse (take (length types.params) f.stack))
          (record f { stack = drop (length types.params) f.stack }) outer s
      by false = same_notes s.notes

  after_lookup_adds : (o : Option Call) (id : MemberId) (f : Frame) (outer : List Frame) (s : State)
      → Adds s.notes (Machine.after_lookup l o id f outer s)
  after_lookup_adds None id f outer s = same_notes s.notes
  after_lookup_adds (Some call) id f outer s = with_types_adds call (signature_of id.desc) f outer s

  after_return_adds : (v : Option Value) (f : Frame) (outer : List Frame) (s : State)
      → Adds s.notes (Machine.after_return l v f outer s)
  after_return_adds v f [] s = (Result v ∷ [], refl)
  after_return_adds v f (g ∷ outer) s = after_result_adds (offset f) v g outer s

  -- ---- a turn

  after_effect_adds : (a : Effect) (f : Frame) (outer : List Frame) (s : State)
      → Adds s.notes (Machine.after_effect l a f outer s)
  after_effect_adds (Go at stack locals store) f outer s = same_notes s.notes
  after_effect_adds (Raise fault) f outer s = after_fault_adds fault f outer s
  after_effect_adds (Toss object) f outer s = after_athrow_adds (slice_get (heap_of s) object) f outer object s
  after_effect_adds (Invoke op id) f outer s = after_lookup_adds (l.call (Machine.holder_of f) op id) id f outer s
  after_effect_adds (Leave v) f outer s = after_return_adds v f outer s
  after_effect_adds Stick f outer s = same_notes s.notes

  after_fetch_adds : (o : Option JInsn) (f : Frame) (outer : List Frame) (s : State)
      → Adds s.notes (Machine.after_fetch l o f outer s)
  after_fetch_adds None f outer s = same_notes s.notes
  after_fetch_adds (Some i) f outer s = after_effect_adds (effect l f.method f.at f.locals s.store i.op f.stack) f outer
      s

  spend_keeps : (r : Report) (o : Outcome) → (Machine.spend_unless_stuck l o r).notes ≡ r.notes
  spend_keeps r Done = refl
  spend_keeps r Running = refl
  spend_keeps r Waiting = refl
  spend_keeps r (Unfit k) = refl
  spend_keeps r (Stuck at) = refl

  spend_adds : (notes : List Note) (t : Move State) → Adds notes t → Adds notes (Machine.spend l t)
  spend_adds notes (On s) h = h
  spend_adds notes (Over r) h = subst (λ n. IsBegun notes n) (sym (spend_keeps r r.outcome)) h

  step_adds : (frames : List Frame) (s : State) → Adds s.notes (Machine.step l frames s)
  step_adds [] s = same_notes s.notes
  step_adds (f ∷ outer) s = spend_adds s.notes _ (after_fetch_adds (let m = f.method in slice_get m.insns f.at) f outer
      s)

  -- ---- entries

  frame_for_call_adds : (o : Option Method) (fit : Bool) (e : Entry) (entries : List Entry) (s : State)
      → Adds s.notes (Machine.entry_begins l o fit e entries s)
  frame_for_call_adds None fit e entries s = same_notes s.notes
  frame_for_call_adds (Some m) true e entries s = same_notes s.notes
  frame_for_call_adds (Some m) false e entries s = same_notes s.notes

  begins_adds : (frames : List Frame) (entries : List Entry) (s : State)
      → Adds s.notes (Machine.begins l frames entries s)
  begins_adds [] [] s = same_notes s.notes
  begins_adds (f ∷ outer) entries s = same_notes s.notes
  begins_adds [] (e ∷ entries) s =
      after_acts_adds e.acts e.number s _ (λ t same.
      let m = Machine.entry_method l (heap_of t) e in
      let fit = Machine.args_fit l (heap_of t) e (signature_of (let id = e.method in id.desc)) in
      subst (λ n. Adds n (Machine.entry_begins l m fit e entries t)) same (frame_for_call_adds m fit e entries t))

  move_adds : (s : State) → Adds s.notes (Machine.move l s)
  move_adds s = by (Machine.begins l s.frames s.entries s) (begins_adds s.frames s.entries s)
    where
      by : (t : Move State) → Adds s.notes t → Adds s.notes (Machine.and_then l t (λ u. Machine.step l u.frames u))
      by (On u) h = adds_more s.notes u.notes _ h (step_adds u.frames u)
      by (Over r) h = h

  -- ---- the two laws

  keeps : (s : State) → Keeps (Machine.device l) s.notes (Machine.move l s)
  keeps s = by (Machine.move l s) (move_adds s)
    where
      by : (t : Move State) → Adds s.notes t → Keeps (Machine.device l) s.notes t
      by (On u) h = h
      by (Over r) h = h

  still : (s : State) → Machine.idle l s.frames s.entries ≢ Running
      → Machine.move l s ≡ Over (report (Machine.idle l s.frames s.entries) s)
  still s over = by s.frames s.entries over
    where
      by : (frames : List Frame) (entries : List Entry) → Machine.idle l frames entries ≢ Running
          → Machine.and_then l (Machine.begins l frames entries s) (λ t. Machine.step l t.frames t)
          ≡ Over (report (Machine.idle l frames entries) s)
      by [] [] over = refl
      by [] (e ∷ entries) over = absurd (over refl)
      by (f ∷ outer) entries over = absurd (over refl)

  pub machine_lawful : Lawful (Machine.device l)
  machine_lawful = lawful (Machine.device l) still keeps
