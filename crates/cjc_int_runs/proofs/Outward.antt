-- Exceptions and results go outwards alike, through frames of any kind.
use Rattle.std.proofs.Common.{◌≡◌, ℕ, ◌+◌, refl, sym, ap, subst, ◌∙◌, arith, Bool, true, List, [], ◌∷◌}
use Rattle.std.proofs.Common.{◌++◌, length, reverse}
use Rattle.std.specs.Prelude.{Option, Some, None, option_map, nat_lt, nat_le, slice_get, if◌then◌else◌}
use Rattle.std.proofs.lemmas.Bool.Decides.{nat_tests}
use Rattle.cjc_script.specs.Bytes.declared.fault.MemberId.{MemberId}
use Rattle.cjc_script.proofs.BytesGets.{at_end}
use Rattle.cjc_script.proofs.BytesLists.{length_mapped}
use Rattle.cjc_script.specs.declared.value.Value.{Value}
use Rattle.cjc_script.specs.declared.value.Value.TheVariants.{Num, Obj}
use Rattle.cjc_script.specs.declared.report.Note.TheVariants.{Thrown, Result}
use Rattle.cjc_script.specs.declared.report.Outcome.{Outcome}
use Rattle.cjc_script.specs.declared.report.Outcome.TheVariants.{Done, Running, Waiting as WaitingOutcome, Unfit, Stuck}
use Rattle.cjc_script.specs.declared.report.Report.{Report}
use Rattle.cjc_script.specs.declared.report.Thing.TheVariants as things
use Rattle.cjc_script.specs.Sorts.{Shape, OfClass, Sort, shape_name}
use Rattle.cjc_card_semantics.specs.Bytecode.Arguments.{result_of}
use Rattle.cjc_card_semantics.specs.Bytecode.Effects.{HeapObject, Object, shape}
use Rattle.cjc_card_semantics.specs.Bytecode.Effects as effects
use Rattle.cjc_card_semantics.specs.Bytecode.Machine.{Start, Next, StuckAt}
use Rattle.cjc_card_semantics.specs.Bytecode.Machine as narrow
use Rattle.cjc_card_semantics.specs.Bytecode.Runs.{Move, On, Alike}
use Rattle.cjc_ncode.specs.declared.narrow.NMethod.{NMethod}
use Rattle.cjc_ncode.specs.ByLabel.{Named, by_label}
use Rattle.cjc_jvm_semantics.specs.Linked.{Method, Linked}
use Rattle.cjc_jvm_semantics.specs.Effects.{Fault, exception_class, place}
use Rattle.cjc_jvm_semantics.specs.Effects as by_name
use Rattle.cjc_jvm_semantics.specs.Machine.{Frame, State, heap_of, with_frames, with_note, with_last, offset, room}
use Rattle.cjc_jvm_semantics.specs.Machine.{stuck_at, values_of, behind_call, handler_in, at_handler, after_throw}
use Rattle.cjc_jvm_semantics.specs.Machine.{after_raise, after_athrow, after_effect, after_result, spend}
use Rattle.cjc_jvm_semantics.specs.Machine.{spend_unless_stuck}
use Rattle.cjc_jvm_semantics.specs.Machine as named
use Rattle.cjc_narrow_proof.specs.Selection.Acts.{Keeps}
use Rattle.cjc_narrow_proof.specs.Selection.Calls.{NFrame, NState, NTurn}
use Rattle.cjc_narrow_proof.specs.Selection.Relation.{Kind, Heap, NMemory, Stores, no_slots, of_class, bare, shown}
use Rattle.cjc_narrow_proof.specs.Selection.Replies.{StatesAgree, result_kinds}
use Rattle.cjc_narrow_proof.specs.Selection.Rows.{narrow_fault}
use Rattle.cjc_narrow_proof.specs.Selection.Throws.{nheap, IsRaised}
use Rattle.cjc_narrow_proof.proofs.SelectionLaws.Begins.{thing_shown, type_shown}
use Rattle.cjc_narrow_proof.proofs.SelectionLaws.Keeps.{grown_keeps, grown_stores}
use Rattle.cjc_narrow_proof.proofs.SelectionLaws.Replies.{keeps_itself}
use Rattle.cjc_narrow_proof.proofs.SelectionLaws.Throws.{name_same}
use Rattle.cjc_int_runs.specs.Relation.{one_word, two_words, as_it_is}
use Rattle.cjc_int_runs.specs.Steps.{IntResults, no_result, result}
use Rattle.cjc_int_runs.specs.Modes.{Catches, Returns, Waits, Waiting, none_waits, one_waits, Couple, between}
use Rattle.cjc_int_runs.specs.Modes.{inside, Both, onward, over}
use Rattle.cjc_int_runs.proofs.Kept.{keeps_in_turn}
use Rattle.cjc_int_runs.proofs.Prologue.{is_word_of}

-- ---- one instruction more is spent

spent_report : (by : Linked) {r' : Report} (o : Outcome) (r : Report) → Alike r' r
    → Alike r' (spend_unless_stuck by o r)
spent_report by Done r h = record { notes = h.notes; outcome = h.outcome; heap = h.heap; statics = h.statics }
spent_report by Running r h = record { notes = h.notes; outcome = h.outcome; heap = h.heap; statics = h.statics }
spent_report by WaitingOutcome r h = record {
  notes = h.notes;
  outcome = h.outcome;
  heap = h.heap;
  statics = h.statics;
}
spent_report by (Unfit k) r h = record { notes = h.notes; outcome = h.outcome; heap = h.heap; statics = h.statics }
spent_report by (Stuck at) r h = h

spent_outcome : (by : Linked) (o : Outcome) (r : Report) → (spend_unless_stuck by o r).outcome ≡ r.outcome
spent_outcome by Done r = refl
spent_outcome by Running r = refl
spent_outcome by WaitingOutcome r = refl
spent_outcome by (Unfit k) r = refl
spent_outcome by (Stuck at) r = refl

-- ---- what ends an entry

-- the result of an entry by its words is the value by name
pub result_same : {heap : Heap} {sort : Option Sort} {kinds : List Kind} {value : Option Value} {words : List Value}
    → IntResults heap sort kinds value words → result_of words ≡ value
result_same no_result = refl
result_same (result {sort = sort} (one_word {x = x} short small held)) = ap (λ z. Some (Num z))
    (is_word_of sort x short small)
result_same (result (two_words e held)) = ap (λ z. Some (Num z)) (sym e)
result_same (result (as_it_is refers)) = refl

module _ (by : Linked) (l : Named) (Here : NMemory → Frame → NFrame → Type 0) (results : Method → Option Sort)
    (narrowed : Method → Start NMethod) (may_throw : Shape (List ℕ) → Bool) where
  abbrev Meets : Move State → NTurn → Type 0
  Meets = Both by l Here results narrowed may_throw

  abbrev Catching : Heap → Frame → NFrame → Type 0
  Catching = Catches by l Here results narrowed may_throw

  abbrev Wait : Heap → Option Sort → List Frame → List NFrame → Type 0
  Wait = Waiting by l Here results narrowed may_throw

  spent_couple : Couple by l Here results narrowed may_throw → Couple by l Here results narrowed may_throw
  spent_couple (between s t same) = between (record s { spent = s.spent + 1 }) t (record {
    stores = same.stores;
    entries = same.entries;
    answers = same.answers;
    notes = same.notes;
  })
  spent_couple (inside f outer s g others t same here waiting) = inside f outer (record s { spent = s.spent + 1 }) g
      others t (record { stores = same.stores; entries = same.entries; answers = same.answers; notes = same.notes })
      here waiting

  pub both_spent : (n : ℕ) {m : Move State} {u : NTurn} → Meets m u
      → Meets (spend by m) (narrow.spent_by (by_label l) n u)
  unfolding spent_couple
  both_spent n (onward (between s t same)) = onward (spent_couple (between s t same))
  both_spent n (onward (inside f outer s g others t same here waiting)) =
      onward (spent_couple (inside f outer s g others t same here waiting))
  both_spent n (over r o t h running stuck) =
      over (spend_unless_stuck by r.outcome r) o t (spent_report by r.outcome r h)
      (λ e. running (sym (spent_outcome by r.outcome r) ∙ e)) (λ at e. stuck at (sym (spent_outcome by r.outcome r)
      ∙ e))

  -- ---- heaps that keep their types

  pub catches_kept : {heap after : Heap} {f : Frame} {g : NFrame} → Keeps heap after → Catching heap f g
      → Catching after f g
  catches_kept {heap = heap} {after = after} keeps catches kind may =
      let h = catches kind may in record {
        target_of = h.target_of;
        found = h.found;
        has_room = h.has_room;
        goes = λ target is memory more object thing there same. h.goes target is memory (keeps_in_turn heap after
            memory.heap keeps more) object thing there same;
      }

  pub waits_kept : {heap after : Heap} {sort : Option Sort} {f : Frame} {g : NFrame} → Keeps heap after
      → Waits by l Here results narrowed may_throw heap sort f g
      → Waits by l Here results narrowed may_throw after sort f g
  waits_kept {heap = heap} {after = after} keeps w = record {
    returns = λ memory more value words r. w.returns memory (keeps_in_turn heap after memory.heap keeps more) value
        words r;
    catches = catches_kept keeps w.catches;
  }

  pub waiting_kept : {heap after : Heap} {sort : Option Sort} {outer : List Frame} {others : List NFrame}
      → Keeps heap after → Wait heap sort outer others → Wait after sort outer others
  waiting_kept keeps none_waits = none_waits
  waiting_kept keeps (one_waits w more) = one_waits (waits_kept keeps w) (waiting_kept keeps more)

  -- ---- exceptions

  module _ (object : ℕ) (thing : HeapObject (List ℕ) MemberId) (may : may_throw (shape thing) ≡ true) (from at : ℕ)
      (s : State) (t : NState) (there : slice_get (nheap t) object ≡ Some thing) (same : StatesAgree l s t) where
    -- a frame handles it, or passes it on
    handled_both : (f : Frame) (g : NFrame) (outer : List Frame) (others : List NFrame) → Catching (nheap t) f g
        → Wait (nheap t) (results f.method) outer others
        → Meets (after_throw by from outer object (shape_name (shape thing)) s) (narrow.caught (by_label l) at others
        object (shape thing) t)
        → Meets (after_throw by from (f ∷ outer) object (shape_name (shape thing)) s) (narrow.caught (by_label l)
        at (g ∷ others) object (shape thing) t)
    unfolding by_label
    handled_both f g outer others catches waiting past =
        let h = catches (shape thing) may in
        subst (λ o. Meets (after_throw by from (f ∷ outer) object (shape_name (shape thing)) s)
        (narrow.caught_at (by_label l) o at g others object t (narrow.caught (by_label l) at others object
        (shape thing) t))) (sym h.found)
        (by_option (handler_in by f (shape_name (shape thing))) refl)
      where
        by_option : (o : Option ℕ) → handler_in by f (shape_name (shape thing)) ≡ o
            → Meets (at_handler by o from f outer object s (after_throw by from outer object
            (shape_name (shape thing)) s)) (narrow.caught_at (by_label l) (option_map (let h = catches (shape thing) may
            in h.target_of) o) at g others object t (narrow.caught (by_label l) at others object (shape thing) t))
        by_option None is = past
        by_option (Some target) is =
            let h = catches (shape thing) may in
            let roomy = h.has_room target is in let high = roomy.0 in let high' = roomy.1 in
            let left_room : nat_lt 0 (room f) ≡ true = grind (arith, nat_tests, high) in
            let right_room : nat_lt 0 (let code = g.code in code.max_stack) ≡ true = grind (arith, nat_tests, high') in
            let f' = record f { at = place (let m = f.method in m.insns) target; stack = Obj object ∷ [] } in
            let g' = record g { at = h.target_of target; stack = Obj object ∷ [] } in
            subst (λ b. Meets (if b then On (with_frames (f' ∷ outer) s) else stuck_at from s)
            (if nat_lt 0 (let code = g.code in code.max_stack) then Next (record t { frames = g' ∷ others })
            else StuckAt at t)) (sym left_room)
            (subst (λ b. Meets (On (with_frames (f' ∷ outer) s)) (if b
            then Next (record t { frames = g' ∷ others }) else StuckAt at t)) (sym right_room)
            (onward (inside f' outer s g' others t same (h.goes target is t.memory (keeps_itself (nheap t)) object thing
            there refl) waiting)))

    unwound : (sort : Option Sort) (outer : List Frame) (others : List NFrame) → Wait (nheap t) sort outer others
        → Meets (after_throw by from outer object (shape_name (shape thing)) s) (narrow.caught (by_label l) at
        others object (shape thing) t)
    unwound _ _ _ none_waits =
        subst (λ name. Meets (On (with_frames [] (with_note (Thrown (shape_name (shape thing)) object) s)))
        (Next (record t { frames = []; notes = t.notes ++ Thrown name object ∷ [] })))
        (sym (name_same l (shape thing)))
        (onward (between (with_note (Thrown (shape_name (shape thing)) object) s) (record t {
          notes = t.notes
              ++ Thrown (shape_name (shape thing)) object ∷ [];
        })
        (record {
          stores = same.stores;
          entries = same.entries;
          answers = same.answers;
          notes = ap (λ ns. ns ++ Thrown (shape_name (shape thing)) object ∷ []) same.notes;
        })))
    unwound _ _ _ (one_waits {f = f} {g = g} {outer = outer} {others = others} w more) =
        handled_both f g outer others w.catches more (unwound (results f.method) outer others more)

    -- from the innermost frames outwards
    thrown_both : (f : Frame) (g : NFrame) (outer : List Frame) (others : List NFrame) → Catching (nheap t) f g
        → Wait (nheap t) (results f.method) outer others
        → Meets (after_throw by from (f ∷ outer) object (shape_name (shape thing)) s) (narrow.caught (by_label l)
        at (g ∷ others) object (shape thing) t)
    thrown_both f g outer others catches waiting = handled_both f g outer others catches waiting
        (unwound (results f.method) outer others waiting)

  module _ (f : Frame) (outer : List Frame) (s : State) (g : NFrame) (others : List NFrame) (t : NState)
      (same : StatesAgree l s t) (catches : Catching (nheap t) f g) (waiting : Wait (nheap t) (results f.method) outer
      others) where
    -- what is on the heap is thrown
    pub tossed_both : (object : ℕ) (thing : HeapObject (List ℕ) MemberId) → slice_get (nheap t) object ≡ Some thing
        → may_throw (shape thing) ≡ true
        → Meets (after_effect by (by_name.Toss object) f outer s) (narrow.turn_after_toss (by_label l)
        (slice_get (nheap t) object) g others object t)
    tossed_both object thing there may =
        subst (λ o. Meets (after_athrow by o f outer object s) (narrow.turn_after_toss (by_label l)
        (slice_get (nheap t) object) g others object t)) (sym (thing_shown l (nheap t) object thing same.stores.heap
        there))
        (subst (λ type. Meets (after_throw by (offset f) (f ∷ outer) object type s) (narrow.turn_after_toss
        (by_label l) (slice_get (nheap t) object) g others object t)) (sym (type_shown l thing))
        (subst (λ o. Meets (after_throw by (offset f) (f ∷ outer) object (shape_name (shape thing)) s)
        (narrow.turn_after_toss (by_label l) o g others object t)) (sym there)
        (thrown_both object thing may (offset f) g.at s t there same f g outer others catches waiting)))

    new_shown : (class : List ℕ) → things.Object class [] ≡ shown l (Object class [])
    unfolding by_label
    new_shown class = refl

    -- a new object is thrown
    pub raised_both : (class : List ℕ) → l.imported class ≡ Some class → may_throw (OfClass class) ≡ true
        → (otherwise : NTurn)
        → Meets (after_raise by class f outer s) (narrow.turn_after_raise (by_label l) (Some class) g others t
        otherwise)
    raised_both class imported may otherwise =
        let new : HeapObject (List ℕ) MemberId = Object class [] in
        let stores = same.stores in
        let here : length (heap_of s) ≡ length (nheap t) = ap length stores.heap ∙ length_mapped (shown l) (nheap t) in
        let after = narrow.with_last (by_label l) new t in
        let keeps = grown_keeps (nheap t) new in
        let held : Stores l (let u = with_last (things.Object class []) s in u.store) after.memory =
        subst (λ x. Stores l (let u = with_last x s in u.store) after.memory) (sym (new_shown class))
        (grown_stores l s.store t.memory new stores (of_class (bare refl imported) no_slots)) in
        subst (λ n. Meets (after_throw by (offset f) (f ∷ outer) n class (with_last (things.Object class []) s))
        (narrow.turn_after_raise (by_label l) (Some class) g others t otherwise)) (sym here)
        (thrown_both (length (nheap t)) new may (offset f) g.at (with_last (things.Object class []) s) after
        (at_end (nheap t) new)
        (record { stores = held; entries = same.entries; answers = same.answers; notes = same.notes }) f g outer others
        (catches_kept keeps catches) (waiting_kept keeps waiting))

    pub failed_both : (fault : Fault) → IsRaised l fault → may_throw (OfClass (exception_class fault)) ≡ true
        → Meets (after_effect by (by_name.Raise fault) f outer s) (narrow.turn_after_fault (by_label l)
        (narrow_fault fault) g others t)
    unfolding by_label
    failed_both fault is may =
        subst (λ o. Meets (after_raise by (exception_class fault) f outer s) (narrow.turn_after_raise
        (by_label l) o g others t (StuckAt g.at t))) (sym is.class)
        (raised_both (exception_class fault) is.imported may (StuckAt g.at t))

  -- ---- reports

  pub report_alike : (o : Outcome) (s : State) (t : NState) → StatesAgree l s t
      → Alike (narrow.report (by_label l) o t) (named.report o s)
  unfolding by_label
  report_alike o s t same =
      let stores = same.stores in
      record {
        notes = sym same.notes;
        outcome = refl;
        heap = λ ended. sym stores.heap;
        statics = λ ended. sym stores.statics;
      }

  -- ---- results

  -- to frames that wait
  pub resumed_both : (from at : ℕ) (f : Frame) (outer : List Frame) (s : State) (g : NFrame) (others : List NFrame)
      (t : NState) → StatesAgree l s t → (value : Option Value) (words : List Value)
      → Returns by l Here results narrowed may_throw t.memory f g value words
      → Wait (nheap t) (results f.method) outer others
      → Meets (after_result from value f outer s) (narrow.returned (by_label l) at words g others t)
  unfolding by_label
  resumed_both from at f outer s g others t same value words r waiting =
      let high = r.by_name in let high' = r.narrow in
      let left_room : nat_le (length (values_of value ++ f.stack)) (room f) ≡ true = grind (arith, nat_tests, high) in
      let right_room : nat_le (length (reverse words ++ g.stack)) (let code = g.code in code.max_stack) ≡ true =
      grind (arith, nat_tests, high') in
      let g' = record g { at = g.next; stack = reverse words ++ g.stack } in
      subst (λ b. Meets (if b then On (with_frames (behind_call (values_of value) f ∷ outer) s) else stuck_at from s)
      (if nat_le (length (reverse words ++ g.stack)) (let code = g.code in code.max_stack)
      then Next (record t { frames = g' ∷ others }) else StuckAt at t)) (sym left_room)
      (subst (λ b. Meets (On (with_frames (behind_call (values_of value) f ∷ outer) s)) (if b
      then Next (record t { frames = g' ∷ others }) else StuckAt at t)) (sym right_room)
      (onward (inside (behind_call (values_of value) f) outer s g' others t same r.here waiting)))

  -- from the innermost frames outwards
  pub left_both : (from : Frame) (s : State) (at : NFrame) (t : NState) (next : ℕ) → StatesAgree l s t
      → (sort : Option Sort) (outer : List Frame) (others : List NFrame) → Wait (nheap t) sort outer others
      → (value : Option Value) (words : List Value) → IntResults (nheap t) sort (result_kinds l sort) value words
      → Meets (after_effect by (by_name.Leave value) from outer s) (narrow.made (by_label l)
      (effects.Leave words) next at others t)
  left_both from s at t next same sort _ _ none_waits value words r =
      subst (λ v. Meets (On (with_frames [] (with_note (Result value) s))) (Next (record t {
        frames = [];
        notes = t.notes ++ Result v ∷ [];
      }))) (sym (result_same r))
      (onward (between (with_note (Result value) s) (record t { notes = t.notes ++ Result value ∷ [] })
      (record {
        stores = same.stores;
        entries = same.entries;
        answers = same.answers;
        notes = ap (λ ns. ns ++ Result value ∷ []) same.notes;
      })))
  left_both from s at t next same sort _ _ (one_waits {f = f} {g = g} {outer = outer} {others = others} w more) value
      words r =
      resumed_both (offset from) at.at f outer s g others t same value words (w.returns t.memory (keeps_itself (nheap
      t))
      value words r) more
