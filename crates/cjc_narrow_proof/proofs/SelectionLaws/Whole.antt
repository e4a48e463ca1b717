-- Whole runs of both machines agree by a table whose rules are kept.
use Rattle.std.proofs.Common.{◌≡◌, ℕ, ◌+◌, ◌≤◌, refl, sym, ap, subst, ◌∙◌, arith, Bool, true, List, [], ◌∷◌, ◌++◌}
use Rattle.std.proofs.Common.{length}
use Rattle.std.specs.Prelude.{◌≢◌, Option, Some, None, option_map, nat_lt, slice_get, if◌then◌else◌}
use Rattle.std.specs.List.{Contains}
use Rattle.std.proofs.lemmas.Bool.Decides.{nat_tests}
use Rattle.cjc_bytes.specs.declared.fault.MemberId.{MemberId}
use Rattle.cjc_bytes.proofs.Lists.{length_mapped}
use Rattle.cjc_bytes.proofs.Gets.{at_end}
use Rattle.cjc_code.specs.declared.insn.JInsn.{JInsn}
use Rattle.cjc_code.specs.declared.insn.JOp.TheVariants as jop
use Rattle.cjc_script.specs.declared.value.Value.{Value}
use Rattle.cjc_script.specs.declared.value.Value.TheVariants.{Obj}
use Rattle.cjc_script.specs.declared.script.Entry.{Entry}
use Rattle.cjc_script.specs.declared.script.Script.{Script}
use Rattle.cjc_script.specs.declared.report.Note.TheVariants.{Thrown, Result}
use Rattle.cjc_script.specs.declared.report.Thing.TheVariants as things
use Rattle.cjc_script.specs.declared.report.Outcome.{Outcome}
use Rattle.cjc_script.specs.declared.report.Outcome.TheVariants.{Done, Running, Waiting as WaitingOutcome, Unfit, Stuck}
use Rattle.cjc_script.specs.declared.report.Report.{Report}
use Rattle.cjc_script.specs.Sorts.{Shape, OfClass, shape_name}
use Rattle.cjc_card_semantics.specs.Bytecode.Runs.{Move, On, Alike, led, device, run, last, first, Steps, silent, ends}
use Rattle.cjc_card_semantics.specs.Bytecode.Runs.{Simulates, Agree}
use Rattle.cjc_card_semantics.specs.Bytecode.Runs as runs
use Rattle.cjc_card_semantics.specs.Bytecode.Effects.{HeapObject, Object, shape}
use Rattle.cjc_card_semantics.specs.Bytecode.Effects as effects
use Rattle.cjc_card_semantics.specs.Bytecode.Meanings.{meaning}
use Rattle.cjc_card_semantics.specs.Bytecode.Machine.{Next, StuckAt}
use Rattle.cjc_card_semantics.specs.Bytecode.Machine as narrow
use Rattle.cjc_card_semantics.proofs.BytecodeLaws.Follows.{from_there, agree, agree_through}
use Rattle.cjc_card_semantics.proofs.BytecodeLaws.Longer.{machine_lawful, run_same}
use Rattle.cjc_ncode.specs.declared.narrow.NMethod.{NMethod}
use Rattle.cjc_ncode.specs.declared.narrow.NInsn.TheVariants as insns
use Rattle.cjc_ncode.specs.ByLabel.{Named, by_label, classes, operation}
use Rattle.cjc_ncode.specs.ByLabel as labels
use Rattle.cjc_jvm_semantics.specs.Linked.{Method, Linked}
use Rattle.cjc_jvm_semantics.specs.Effects.{Fault, NullPointer, exception_class, Store, place, effect}
use Rattle.cjc_jvm_semantics.specs.Effects as by_name
use Rattle.cjc_jvm_semantics.specs.Machine.{Frame, State, heap_of, with_frames, with_note, with_last, offset, room}
use Rattle.cjc_jvm_semantics.specs.Machine.{stuck_at, at_handler, after_throw, after_raise, after_athrow, after_effect}
use Rattle.cjc_jvm_semantics.specs.Machine.{spend, spend_unless_stuck, begins, step, and_then, idle}
use Rattle.cjc_jvm_semantics.specs.Machine as named
use Rattle.cjc_narrow_proof.specs.Selection.Relation.{Kind, Refers, Heap, null, object as object_here, Stacks, bottom}
use Rattle.cjc_narrow_proof.specs.Selection.Relation.{cell, Locals, AllWider, none_wider, one_wider, no_slots, of_class}
use Rattle.cjc_narrow_proof.specs.Selection.Relation.{NMemory, shown, Stores, bare, all_there}
use Rattle.cjc_narrow_proof.specs.Selection.Rows.{narrow_fault, NEffect, Same, goes, raises, tosses}
use Rattle.cjc_narrow_proof.specs.Selection.Jumps.{Jumps, jumps, falls, Results, no_result, result, Returns, leaves}
use Rattle.cjc_narrow_proof.specs.Selection.Switches.{JumpsInTwo}
use Rattle.cjc_narrow_proof.specs.Selection.Calls.{NFrame, NState, NTurn}
use Rattle.cjc_narrow_proof.specs.Selection.Throws.{nheap, IsRaised}
use Rattle.cjc_narrow_proof.specs.Selection.Results.{Resumes, resumes, NotesResult, notes}
use Rattle.cjc_narrow_proof.specs.Selection.Acts.{Keeps}
use Rattle.cjc_narrow_proof.specs.Selection.Types.{TypesStay}
use Rattle.cjc_narrow_proof.specs.Selection.Types as types
use Rattle.cjc_narrow_proof.specs.Selection.Replies.{StatesAgree}
use Rattle.cjc_narrow_proof.specs.Selection.Turns.{with_spent}
use Rattle.cjc_narrow_proof.specs.Selection.Paths.{one_further}
use Rattle.cjc_narrow_proof.specs.Selection.Tables.{Table, code_of, written_place, spot, Arrives, handler_at, Catches}
use Rattle.cjc_narrow_proof.specs.Selection.Tables.{Comes}
use Rattle.cjc_narrow_proof.specs.Selection.Tables.{Stands, Waits, Waiting, no_frame, a_frame, Couple, between, inside}
use Rattle.cjc_narrow_proof.specs.Selection.Tables.{left, right, measure}
use Rattle.cjc_narrow_proof.specs.Selection.Runs.{Both, onward, over, Rule, does, goes_on, jumps_in_two, throws}
use Rattle.cjc_narrow_proof.specs.Selection.Runs.{returns, calls, Begins, into, unfit, IsFine}
use Rattle.cjc_narrow_proof.specs.Selection.Runs as rules
use Rattle.cjc_narrow_proof.proofs.SelectionLaws.Begins.{thing_shown, type_shown}
use Rattle.cjc_narrow_proof.proofs.SelectionLaws.Keeps.{stacks_kept, locals_kept, grown_keeps, grown_stores}
use Rattle.cjc_narrow_proof.proofs.SelectionLaws.Paths.{named_step, narrow_step}
use Rattle.cjc_narrow_proof.proofs.SelectionLaws.Results.{leaves_to, leaves_entry}
use Rattle.cjc_narrow_proof.proofs.SelectionLaws.Throws.{name_same}
use Rattle.cjc_narrow_proof.proofs.SelectionLaws.Types.{types_stay}
use Rattle.cjc_narrow_proof.proofs.SelectionLaws.Widens.{agrees_wider, stacks_wider, locals_wider}

-- ---- one instruction more is spent

spent_report : (by : Linked) {r' : Report} (o : Outcome) (r : Report) (t : NState) (o' : Outcome) → r.outcome ≡ o
    → Alike r' r → Alike r' (spend_unless_stuck by o r)
spent_report by Done r t o' e h = record { notes = h.notes; outcome = h.outcome; heap = h.heap; statics = h.statics }
spent_report by Running r t o' e h = record { notes = h.notes; outcome = h.outcome; heap = h.heap; statics = h.statics }
spent_report by WaitingOutcome r t o' e h = record {
  notes = h.notes;
  outcome = h.outcome;
  heap = h.heap;
  statics = h.statics;
}
spent_report by (Unfit k) r t o' e h = record {
  notes = h.notes;
  outcome = h.outcome;
  heap = h.heap;
  statics = h.statics;
}
spent_report by (Stuck at) r t o' e h = h

spent_outcome : (by : Linked) (o : Outcome) (r : Report) → (spend_unless_stuck by o r).outcome ≡ r.outcome
spent_outcome by Done r = refl
spent_outcome by Running r = refl
spent_outcome by WaitingOutcome r = refl
spent_outcome by (Unfit k) r = refl
spent_outcome by (Stuck at) r = refl

results_wider : {heap : Heap} {kinds ks : List Kind} {value : Option Value} {words : List Value} → AllWider kinds ks
    → Results heap kinds value words → Results heap ks value words
results_wider none_wider no_result = no_result
results_wider (one_wider w none_wider) (result a) = result (agrees_wider w a)
results_wider (one_wider w (one_wider v more)) r = elim r [ ]

module _ (by : Linked) (l : Named) (tb : Table) where
  spent_couple : Couple by l tb → Couple by l tb
  spent_couple (between s t same) = between (record s { spent = s.spent + 1 }) t (record {
    stores = same.stores;
    entries = same.entries;
    answers = same.answers;
    notes = same.notes;
  })
  spent_couple (inside f outer s g others t same stands waiting) = inside f outer (record s { spent = s.spent + 1 }) g
      others t (record { stores = same.stores; entries = same.entries; answers = same.answers; notes = same.notes })
      stands waiting

  pub both_spent : (n : ℕ) {m : Move State} {u : NTurn} → Both by l tb m u
      → Both by l tb (spend by m) (narrow.spent_by (by_label l) n u)
  unfolding spent_couple
  both_spent n (onward (between s t same)) = onward (spent_couple (between s t same))
  both_spent n (onward (inside f outer s g others t same stands waiting)) =
      onward (spent_couple (inside f outer s g others t same stands waiting))
  both_spent n (over r o t h running stuck) =
      over (spend_unless_stuck by r.outcome r) o t (spent_report by r.outcome r t o refl h)
      (λ e. running (sym (spent_outcome by r.outcome r) ∙ e)) (λ at e. stuck at (sym (spent_outcome by r.outcome r)
      ∙ e))

  -- ---- heaps that keep their types

  waits_kept : {heap after : Heap} {results : List Kind} {f : Frame} {g : NFrame} → Keeps heap after
      → Waits by l tb heap results f g → Waits by l tb after results f g
  waits_kept keeps w = record {
    ks = w.ks;
    ls = w.ls;
    code = w.code;
    place = w.place;
    agree = record { stack = stacks_kept keeps w.agree.stack; locals = locals_kept keeps w.agree.locals };
    arrives = w.arrives;
    has_room = w.has_room;
    catches = w.catches;
  }

  pub waiting_kept : {heap after : Heap} {results : List Kind} {outer : List Frame} {others : List NFrame}
      → Keeps heap after → Waiting by l tb heap results outer others → Waiting by l tb after results outer others
  waiting_kept keeps (no_frame short) = no_frame short
  waiting_kept keeps (a_frame w more) = a_frame (waits_kept keeps w) (waiting_kept keeps more)

  -- ---- where both go on

  -- nothing is left out there
  pub comes : {m : Method} {at next : ℕ} {ks ls : List Kind} (vs : List Value) (words : List (Option Value))
      → Arrives tb m at next ks ls → Comes tb m at next ks ls vs words
  comes vs words a = record {
    point = a.point;
    is_reached = a.is_reached;
    place = a.place;
    stack = a.stack;
    locals = a.locals;
    owns = all_there a.all_there;
  }

  pub arrived : (f : Frame) (g : NFrame) (heap : Heap) (at next : ℕ) (ks ls : List Kind) (vs ws : List Value)
      (locals words : List (Option Value)) → g.code ≡ code_of tb f.method → Comes tb f.method at next ks ls vs words
      → Stacks heap ks vs ws → Locals heap ls locals words
      → Stands tb heap (record f { at = at; stack = vs; locals = locals }) (record g {
        at = next;
        stack = ws;
        locals = words;
      })
  arrived f g heap at next ks ls vs ws locals words code a stack held = record {
    point = a.point;
    is_reached = a.is_reached;
    code = code;
    place = a.place;
    agree = record { stack = stacks_wider a.stack stack; locals = locals_wider a.locals held };
    owns = a.owns;
  }

  -- ---- exceptions

  -- a couple of frames as an exception meets it
  pub record Meets (heap : Heap) (f : Frame) (g : NFrame) : Type 0 where
    pub ls : List Kind
    pub held : Locals heap ls f.locals g.locals
    pub code : g.code ≡ code_of tb f.method
    pub place : g.at ≡ spot tb f.method f.at
    pub catches : Catches by l tb f.method f.at ls

  waits_meets : {heap : Heap} {results : List Kind} {f : Frame} {g : NFrame} → Waits by l tb heap results f g
      → Meets heap f g
  waits_meets w = record { ls = w.ls; held = w.agree.locals; code = w.code; place = w.place; catches = w.catches }

  module _ (object : ℕ) (thing : HeapObject (List ℕ) MemberId) (may : tb.may_throw (shape thing) ≡ true) (from at : ℕ)
      (s : State) (t : NState) (there : slice_get (nheap t) object ≡ Some thing) (same : StatesAgree l s t) where
    -- a frame handles it, or passes it on
    handled_both : (f : Frame) (g : NFrame) (outer : List Frame) (others : List NFrame) → Meets (nheap t) f g
        → Waiting by l tb (nheap t) (tb.results f.method) outer others
        → Both by l tb (after_throw by from outer object (shape_name (shape thing)) s) (narrow.caught (by_label l) at
        others object (shape thing) t)
        → Both by l tb (after_throw by from (f ∷ outer) object (shape_name (shape thing)) s) (narrow.caught (by_label l)
        at (g ∷ others) object (shape thing) t)
    unfolding by_label
    handled_both f g outer others meets waiting past =
        let kind = shape thing in
        let alike = meets.catches kind may in
        let found : labels.handler l (let code = g.code in code.catches) g.at kind
        ≡ option_map (written_place tb f.method) (handler_at by f.method f.at kind) =
        ap (λ code. labels.handler l code.catches g.at kind) meets.code
        ∙ ap (λ k. labels.handler l (let code = code_of tb f.method in code.catches) k kind) meets.place
        ∙ alike.found in
        subst (λ o. Both by l tb (after_throw by from (f ∷ outer) object (shape_name kind) s)
        (narrow.caught_at (by_label l) o at g others object t (narrow.caught (by_label l) at others object kind t)))
        (sym found)
        (by_option (handler_at by f.method f.at kind) refl)
      where
        by_option : (o : Option ℕ) → handler_at by f.method f.at (shape thing) ≡ o
            → Both by l tb (at_handler by o from f outer object s (after_throw by from outer object
            (shape_name (shape thing)) s)) (narrow.caught_at (by_label l) (option_map (written_place tb f.method) o)
            at g others object t (narrow.caught (by_label l) at others object (shape thing) t))
        by_option None is = past
        by_option (Some target) is =
            let alike = meets.catches (shape thing) may in
            let h = alike.handles target is in
            let high = h.has_room in let high' = h.narrow_has_room in
            let left_room : nat_lt 0 (room f) ≡ true = grind (arith, nat_tests) in
            let same_room : (let code = g.code in code.max_stack) ≡ (let code = code_of tb f.method in code.max_stack) =
            ap (λ code. code.max_stack) meets.code in
            let right_room : nat_lt 0 (let code = g.code in code.max_stack) ≡ true = grind (arith, nat_tests, same_room)
            in
            let f' = record f { at = place (let m = f.method in m.insns) target; stack = Obj object ∷ [] } in
            let g' = record g { at = written_place tb f.method target; stack = Obj object ∷ [] } in
            subst (λ b. Both by l tb (if b then On (with_frames (f' ∷ outer) s) else stuck_at from s)
            (if nat_lt 0 (let code = g.code in code.max_stack) then Next (record t { frames = g' ∷ others })
            else StuckAt at t)) (sym left_room)
            (subst (λ b. Both by l tb (On (with_frames (f' ∷ outer) s)) (if b
            then Next (record t { frames = g' ∷ others }) else StuckAt at t)) (sym right_room)
            (onward (inside f' outer s g' others t same
            (arrived f g (nheap t) (place (let m = f.method in m.insns) target) (written_place tb f.method target)
            (Refers h.within ∷ []) meets.ls (Obj object ∷ []) (Obj object ∷ []) f.locals g.locals meets.code
            (comes (Obj object ∷ []) g.locals h.arrives) (cell (object_here thing there h.passes) bottom) meets.held)
            waiting)))

    unwound : (results : List Kind) (outer : List Frame) (others : List NFrame)
        → Waiting by l tb (nheap t) results outer others
        → Both by l tb (after_throw by from outer object (shape_name (shape thing)) s) (narrow.caught (by_label l) at
        others object (shape thing) t)
    unwound _ _ _ (no_frame short) =
        subst (λ name. Both by l tb (On (with_frames [] (with_note (Thrown (shape_name (shape thing)) object) s)))
        (Next (record t { frames = []; notes = t.notes ++ Thrown name object ∷ [] })))
        (sym (name_same l (shape thing)))
        (onward (between (with_note (Thrown (shape_name (shape thing)) object) s) (record t {
          notes = t.notes
              ++ Thrown (shape_name (shape thing)) object ∷ [];
        })
        (record {
          stores = same.stores;
          entries = same.entries;
          answers = same.answers;
          notes = ap (λ ns. ns ++ Thrown (shape_name (shape thing)) object ∷ []) same.notes;
        })))
    unwound _ _ _ (a_frame {f = f} {g = g} {outer = outer} {others = others} w more) =
        handled_both f g outer others (waits_meets w) more (unwound (tb.results f.method) outer others more)

    -- from the innermost frames outwards
    pub thrown_both : (f : Frame) (g : NFrame) (outer : List Frame) (others : List NFrame) → Meets (nheap t) f g
        → Waiting by l tb (nheap t) (tb.results f.method) outer others
        → Both by l tb (after_throw by from (f ∷ outer) object (shape_name (shape thing)) s) (narrow.caught (by_label l)
        at (g ∷ others) object (shape thing) t)
    thrown_both f g outer others meets waiting = handled_both f g outer others meets waiting
        (unwound (tb.results f.method) outer others waiting)

  pub meets_kept : {heap after : Heap} {f : Frame} {g : NFrame} → Keeps heap after → Meets heap f g → Meets after f g
  meets_kept keeps w = record {
    ls = w.ls;
    held = locals_kept keeps w.held;
    code = w.code;
    place = w.place;
    catches = w.catches;
  }

  module _ (f : Frame) (outer : List Frame) (s : State) (g : NFrame) (others : List NFrame) (t : NState)
      (same : StatesAgree l s t) (meets : Meets (nheap t) f g) (waiting : Waiting by l tb (nheap t)
      (tb.results f.method) outer others) where
    -- what is on the heap is thrown
    pub tossed_both : (object : ℕ) (thing : HeapObject (List ℕ) MemberId) → slice_get (nheap t) object ≡ Some thing
        → tb.may_throw (shape thing) ≡ true
        → Both by l tb (after_effect by (by_name.Toss object) f outer s) (narrow.turn_after_toss (by_label l)
        (slice_get (nheap t) object) g others object t)
    tossed_both object thing there may =
        subst (λ o. Both by l tb (after_athrow by o f outer object s) (narrow.turn_after_toss (by_label l)
        (slice_get (nheap t) object) g others object t)) (sym (thing_shown l (nheap t) object thing same.stores.heap
        there))
        (subst (λ type. Both by l tb (after_throw by (offset f) (f ∷ outer) object type s) (narrow.turn_after_toss
        (by_label l) (slice_get (nheap t) object) g others object t)) (sym (type_shown l thing))
        (subst (λ o. Both by l tb (after_throw by (offset f) (f ∷ outer) object (shape_name (shape thing)) s)
        (narrow.turn_after_toss (by_label l) o g others object t)) (sym there)
        (thrown_both object thing may (offset f) g.at s t there same f g outer others meets waiting)))

    new_shown : (class : List ℕ) → things.Object class [] ≡ shown l (Object class [])
    unfolding by_label
    new_shown class = refl

    -- a new object is thrown
    pub raised_both : (class : List ℕ) → l.imported class ≡ Some class → tb.may_throw (OfClass class) ≡ true
        → (otherwise : NTurn)
        → Both by l tb (after_raise by class f outer s) (narrow.turn_after_raise (by_label l) (Some class) g others t
        otherwise)
    raised_both class imported may otherwise =
        let new : HeapObject (List ℕ) MemberId = Object class [] in
        let stores = same.stores in
        let here : length (heap_of s) ≡ length (nheap t) = ap length stores.heap ∙ length_mapped (shown l) (nheap t) in
        let after = narrow.with_last (by_label l) new t in
        let keeps = grown_keeps (nheap t) new in
        let held : Stores l (let u = with_last (things.Object class []) s in u.store) after.memory =
        subst (λ x. Stores l (let u = with_last x s in u.store) after.memory) (sym (new_shown class))
        (grown_stores l s.store t.memory new stores (of_class (bare refl imported) no_slots)) in
        subst (λ n. Both by l tb (after_throw by (offset f) (f ∷ outer) n class (with_last (things.Object class []) s))
        (narrow.turn_after_raise (by_label l) (Some class) g others t otherwise)) (sym here)
        (thrown_both (length (nheap t)) new may (offset f) g.at (with_last (things.Object class []) s) after
        (at_end (nheap t) new)
        (record { stores = held; entries = same.entries; answers = same.answers; notes = same.notes }) f g outer others
        (meets_kept keeps meets) (waiting_kept keeps waiting))

    pub failed_both : (fault : Fault) → IsRaised l fault → tb.may_throw (OfClass (exception_class fault)) ≡ true
        → Both by l tb (after_effect by (by_name.Raise fault) f outer s) (narrow.turn_after_fault (by_label l)
        (narrow_fault fault) g others t)
    unfolding by_label
    failed_both fault is may =
        subst (λ o. Both by l tb (after_raise by (exception_class fault) f outer s) (narrow.turn_after_raise
        (by_label l) o g others t (StuckAt g.at t))) (sym is.class)
        (raised_both (exception_class fault) is.imported may (StuckAt g.at t))

  -- ---- reports

  pub report_alike : (o : Outcome) (s : State) (t : NState) → StatesAgree l s t
      → Alike (narrow.report (by_label l) o t) (named.report o s)
  unfolding by_label
  report_alike o s t same =
      let stores = same.stores in
      record {
        notes = sym same.notes;
        outcome = refl;
        heap = λ ended. sym stores.heap;
        statics = λ ended. sym stores.statics;
      }

  -- ---- returns

  from_notes : (value : Option Value) (s : State) (t : NState) → StatesAgree l s t → {m : Move State} {u : NTurn}
      → NotesResult value s t m u → Both by l tb m u
  from_notes value s t same notes =
      onward (between (with_note (Result value) s) (record t { notes = t.notes ++ Result value ∷ [] })
      (record {
        stores = same.stores;
        entries = same.entries;
        answers = same.answers;
        notes = ap (λ ns. ns ++ Result value ∷ []) same.notes;
      }))

  from_resumes : (results ks ls : List Kind) (f : Frame) (outer : List Frame) (s : State) (g : NFrame)
      (others : List NFrame) (t : NState) → StatesAgree l s t → g.code ≡ code_of tb f.method
      → Arrives tb f.method (f.at + 1) g.next (results ++ ks) ls → Locals (nheap t) ls f.locals g.locals
      → Waiting by l tb (nheap t) (tb.results f.method) outer others
      → {m : Move State} {u : NTurn} → Resumes l (results ++ ks) s t f outer g others m u → Both by l tb m u
  from_resumes results ks ls f outer s g others t same code arrives held waiting (resumes {vs = vs} {ws = ws} stack) =
      onward (inside (record f { at = f.at + 1; stack = vs }) outer s (record g { at = g.next; stack = ws }) others t
      same
      (arrived f g (nheap t) (f.at + 1) g.next (results ++ ks) ls vs ws f.locals g.locals code (comes vs g.locals
      arrives) stack held)
      waiting)

  left_both : (from : Frame) (s : State) (at : NFrame) (t : NState) (next : ℕ) → StatesAgree l s t
      → (results : List Kind) (outer : List Frame) (others : List NFrame)
      → Waiting by l tb (nheap t) results outer others → (value : Option Value) (words : List Value)
      → Results (nheap t) results value words
      → Both by l tb (after_effect by (by_name.Leave value) from outer s) (narrow.made (by_label l)
      (effects.Leave words) next at others t)
  left_both from s at t next same results _ _ (no_frame short) value words r =
      from_notes value s t same (leaves_entry by l s t results value words short r from at next)
  left_both from s at t next same results _ _ (a_frame {f = f} {g = g} {outer = outer} {others = others} w more) value
      words r =
      from_resumes results w.ks w.ls f outer s g others t same w.code w.arrives w.agree.locals more
      (leaves_to by l w.ks f outer s g others t w.agree.stack results value words r w.has_room from at next)

  -- ---- jumps

  jump_both : (f : Frame) (outer : List Frame) (s : State) (g : NFrame) (others : List NFrame) (t : NState)
      → StatesAgree l s t → g.code ≡ code_of tb f.method → Waiting by l tb (nheap t) (tb.results f.method) outer others
      → (ks ls : List Kind) (offsets : List ℕ) → ((offset : ℕ) → Contains offsets offset
      → Arrives tb f.method (place (let m = f.method in m.insns) offset) (written_place tb f.method offset) ks ls)
      → (effect : by_name.Effect) (effect' : NEffect)
      → ((vs : List Value) (locals : List (Option Value)) (store : Store)
      → effect ≡ by_name.Go (f.at + 1) vs locals store → Arrives tb f.method (f.at + 1) (g.at + 1) ks ls)
      → Jumps l ks ls offsets (place (let m = f.method in m.insns)) (written_place tb f.method) (f.at + 1) (g.at + 1)
      effect effect' → TypesStay (nheap t) effect'
      → Both by l tb (spend by (after_effect by effect f outer s)) (narrow.spent_by (by_label l) t.spent
      (narrow.made (by_label l) effect' (g.at + 1) g others (with_spent t)))
  jump_both f outer s g others t same code waiting ks ls offsets there _ _ behind (jumps {vs = vs} {ws = ws}
      {locals = locals} {words = words} {store = store} {memory = memory} target among stack held stores)
      (types.goes_on keeps) =
      let to = place (let m = f.method in m.insns) target in
      let to' = written_place tb f.method target in
      onward (inside (record f { at = to; stack = vs; locals = locals }) outer (record s {
        store = store;
        spent = s.spent + 1;
      }) (record g { at = to'; stack = ws; locals = words }) others (record t {
        memory = memory;
        spent = t.spent + 1;
      })
      (record { stores = stores; entries = same.entries; answers = same.answers; notes = same.notes })
      (arrived f g memory.heap to to' ks ls vs ws locals words code (comes vs words (there target among)) stack held)
      (waiting_kept keeps waiting))
  jump_both f outer s g others t same code waiting ks ls offsets there _ _ behind (falls {vs = vs} {ws = ws}
      {locals = locals} {words = words} {store = store} {memory = memory} stack held stores) (types.goes_on keeps) =
      onward (inside (record f { at = f.at + 1; stack = vs; locals = locals }) outer (record s {
        store = store;
        spent = s.spent + 1;
      }) (record g { at = g.at + 1; stack = ws; locals = words }) others (record t {
        memory =
            memory;
        spent = t.spent + 1;
      })
      (record { stores = stores; entries = same.entries; answers = same.answers; notes = same.notes })
      (arrived f g memory.heap (f.at + 1) (g.at + 1) ks ls vs ws locals words code (comes vs words (behind vs locals
      store refl)) stack held) (waiting_kept keeps waiting))

  -- ---- turns

  abbrev left_of : Couple by l tb → State
  left_of w = left w

  abbrev right_of : Couple by l tb → NState
  right_of w = right w

  abbrev measure_of : Couple by l tb → ℕ
  measure_of w = measure w

  abbrev Follows : Couple by l tb → Type 0
  Follows w = Steps (named.device by) (device (by_label l)) left_of right_of 2 measure_of w

  one_turn : (w : Couple by l tb) {m : Move State} {u : NTurn} → named.move by (left_of w) ≡ m
      → narrow.turn (by_label l) (right_of w) ≡ u → Both by l tb m u → Follows w
  one_turn w e e' (onward v) = runs.onward v 1 e (last (ap (led (by_label l)) e')) (omega arith)
  one_turn w e e' (over r o t h running stuck) = ends r (narrow.report (by_label l) o t) 1 e
      (last (ap (led (by_label l)) e')) (omega arith) h running stuck

  two_turns : (w : Couple by l tb) (between_turns : NState) {m : Move State} {u : NTurn} → named.move by (left_of w) ≡ m
      → narrow.turn (by_label l) (right_of w) ≡ Next between_turns → narrow.turn (by_label l) between_turns ≡ u
      → Both by l tb m u → Follows w
  two_turns w t1 e e1 e2 (onward v) =
      runs.onward v 2 e (first (ap (led (by_label l)) e1) (last (ap (led (by_label l)) e2))) (omega arith)
  two_turns w t1 e e1 e2 (over r o t h running stuck) = ends r (narrow.report (by_label l) o t) 2 e
      (first (ap (led (by_label l)) e1) (last (ap (led (by_label l)) e2))) (omega arith) h running stuck

  module _ (fine : IsFine by l tb) where
    module _ (f : Frame) (outer : List Frame) (s : State) (g : NFrame) (others : List NFrame) (t : NState)
        (same : StatesAgree l s t) (stands : Stands tb (nheap t) f g) (waiting : Waiting by l tb (nheap t)
        (tb.results f.method) outer others) where
      abbrev known : List Kind
      known = let p = stands.point in p.locals

      abbrev height : ℕ
      height = let code = g.code in code.max_stack

      same' : StatesAgree l s (with_spent t)
      same' = record { stores = same.stores; entries = same.entries; answers = same.answers; notes = same.notes }

      meets : Catches by l tb f.method f.at known → Meets (nheap t) f g
      meets catches = record {
        ls = known;
        held = stands.agree.locals;
        code = stands.code;
        place = stands.place;
        catches = catches;
      }

      -- what holds at the place in the code that is written holds of the frame
      at_place : (P : NMethod → ℕ → Type 0) → P (code_of tb f.method) (spot tb f.method f.at) → P g.code g.at
      at_place P h = subst (λ code. P code g.at) (sym stands.code) (subst (P (code_of tb f.method)) (sym stands.place)
          h)

      -- where both go on behind their instructions
      abbrev Behind : (ks ls : List Kind) → (next : ℕ) → by_name.Effect → NEffect → Type 0
      Behind ks ls next effect effect' = (after wafter : List (Option Value)) (new : Store) (grown : NMemory)
          (stack wstack : List Value) → effect ≡ by_name.Go (f.at + 1) stack after new
          → effect' ≡ effects.Go next wstack wafter grown → Comes tb f.method (f.at + 1) next ks ls stack wafter

      -- both go on behind their instructions, or raise
      row_both : (ks ls : List Kind) → Catches by l tb f.method f.at known
          → (effect : by_name.Effect) (effect' : NEffect) → Behind ks ls (g.at + 1) effect effect' → ((object : ℕ)
          → effect ≡ by_name.Toss object → ⊥) → Same l ks ls (f.at + 1) (g.at + 1) effect effect'
          → TypesStay (nheap t) effect'
          → Both by l tb (spend by (after_effect by effect f outer s)) (narrow.spent_by (by_label l) t.spent
          (narrow.made (by_label l) effect' (g.at + 1) g others (with_spent t)))
      row_both ks ls catches _ _ lands never (goes {vs = vs} {ws = ws} {locals = locals} {words = words}
          {store = store} {memory = memory} stack held stores) (types.goes_on keeps) =
          onward (inside (record f { at = f.at + 1; stack = vs; locals = locals }) outer (record s {
            store = store;
            spent = s.spent + 1;
          }) (record g { at = g.at + 1; stack = ws; locals = words }) others
          (record t { memory = memory; spent = t.spent + 1 })
          (record { stores = stores; entries = same.entries; answers = same.answers; notes = same.notes })
          (arrived f g memory.heap (f.at + 1) (g.at + 1) ks ls vs ws locals words stands.code (lands locals words store
          memory vs ws refl refl) stack held) (waiting_kept keeps waiting))
      row_both ks ls catches _ _ lands never (raises {fault = fault}) stays =
          both_spent t.spent (failed_both f outer s g others (with_spent t) same' (meets catches) waiting fault
          (fine.exceptions.raises fault) (fine.exceptions.may_raise fault))
      row_both ks ls catches _ _ lands never (tosses {object = object}) stays = absurd (never object refl)

      throw_both : (within : Shape (List ℕ) → Bool) (ks : List Kind) → ((kind : Shape (List ℕ)) → within kind ≡ true
          → tb.may_throw kind ≡ true) → Catches by l tb f.method f.at known → (vs ws : List Value)
          → Stacks (nheap t) (Refers within ∷ ks) vs ws
          → Both by l tb (spend by (after_effect by (by_name.effect by f.method f.at f.locals s.store jop.Throw vs) f
          outer s)) (narrow.spent_by (by_label l) t.spent (narrow.made (by_label l) (effects.effect (classes l)
          (operation (insns.Op 0x93)) height (g.at + 1) g.locals t.memory ws) (g.at + 1) g others (with_spent t)))
      unfolding effect meaning
      throw_both within ks may catches _ _ (cell null rest) =
          both_spent t.spent (failed_both f outer s g others (with_spent t) same' (meets catches) waiting NullPointer
          (fine.exceptions.raises NullPointer) (fine.exceptions.may_raise NullPointer))
      throw_both within ks may catches _ _ (cell (object_here {k = k} thing there passes) rest) =
          both_spent t.spent (tossed_both f outer s g others (with_spent t) same' (meets catches) waiting k thing there
          (may (shape thing) passes))

      leave_both : (kinds : List Kind) → AllWider kinds (tb.results f.method)
          → (effect : by_name.Effect) (effect' : NEffect) → Returns (nheap t) kinds effect effect'
          → Both by l tb (spend by (after_effect by effect f outer s)) (narrow.spent_by (by_label l) t.spent
          (narrow.made (by_label l) effect' (g.at + 1) g others (with_spent t)))
      leave_both kinds wider _ _ (leaves {value = value} {words = words} r) =
          both_spent t.spent (left_both f s g (with_spent t) (g.at + 1) same' (tb.results f.method) outer others waiting
          value words (results_wider wider r))

    -- ---- an instruction

    by_rule : (f : Frame) (outer : List Frame) (s : State) (g : NFrame) (others : List NFrame) (t : NState)
        (same : StatesAgree l s t) (stands : Stands tb (nheap t) f g) (waiting : Waiting by l tb (nheap t)
        (tb.results f.method) outer others) (i : JInsn) → slice_get (let m = f.method in m.insns) f.at ≡ Some i
        → Rule by l tb f.method f.at stands.point i → Follows (inside f outer s g others t same stands waiting)
    by_rule f outer s g others t same stands waiting i there (does insn ks ls written holds never lands catches) =
        let s0 = record s { frames = f ∷ outer } in
        let t0 = record t { frames = g ∷ others } in
        let same0 : StatesAgree l s0 t0 = record {
          stores = same.stores;
          entries = same.entries;
          answers = same.answers;
          notes = same.notes;
        } in
        let is_there = at_place f outer s g others t same stands waiting (λ code k. slice_get code.insns k ≡ Some insn)
        written in
        let effect = by_name.effect by f.method f.at f.locals s.store i.op f.stack in
        let effect' = effects.effect (classes l) (operation insn) (let code = g.code in code.max_stack) (g.at + 1)
        g.locals t.memory g.stack in
        let row : Same l ks ls (f.at + 1) (g.at + 1) effect effect' = at_place f outer s g others t same stands waiting
        (λ code k. Same l ks ls (f.at + 1) (k + 1) effect (effects.effect (classes l) (operation insn)
        code.max_stack (k + 1) g.locals t.memory g.stack)) (holds f.locals g.locals s.store t.memory f.stack g.stack
        same.stores stands.agree.locals stands.agree.stack stands.owns) in
        let behind : Behind f outer s g others t same stands waiting ks ls (g.at + 1) effect effect' =
        at_place f outer s g others t same stands waiting (λ code k. Behind f outer s g others t same stands waiting ks
        ls (k + 1) effect (effects.effect (classes l) (operation insn) code.max_stack (k + 1) g.locals t.memory
        g.stack)) (λ after wafter new grown stack wstack e e'. lands f.locals after g.locals wafter s.store new
        t.memory grown f.stack stack g.stack wstack stands.owns e e') in
        one_turn (inside f outer s g others t same stands waiting) (named_step by f outer s0 i there)
        (narrow_step l g others t0 insn is_there)
        (row_both f outer s0 g others t0 same0 stands waiting ks ls catches effect effect' behind
        (never f.locals s.store f.stack) row (types_stay l (let code = g.code in code.max_stack) (g.at + 1) g.locals
        t.memory (operation insn) g.stack))
    by_rule f outer s g others t same stands waiting i there (rules.jumps insn ks ls offsets written holds arrives
        behind) =
        let s0 = record s { frames = f ∷ outer } in
        let t0 = record t { frames = g ∷ others } in
        let same0 : StatesAgree l s0 t0 = record {
          stores = same.stores;
          entries = same.entries;
          answers = same.answers;
          notes = same.notes;
        } in
        let is_there = at_place f outer s g others t same stands waiting (λ code k. slice_get code.insns k ≡ Some insn)
        written in
        let effect = by_name.effect by f.method f.at f.locals s.store i.op f.stack in
        let effect' = effects.effect (classes l) (operation insn) (let code = g.code in code.max_stack) (g.at + 1)
        g.locals t.memory g.stack in
        let row : Jumps l ks ls offsets (place (let m = f.method in m.insns)) (written_place tb f.method) (f.at + 1)
        (g.at + 1) effect effect' = at_place f outer s g others t same stands waiting (λ code k. Jumps l ks ls
        offsets (place (let m = f.method in m.insns)) (written_place tb f.method) (f.at + 1) (k + 1) effect
        (effects.effect (classes l) (operation insn) code.max_stack (k + 1) g.locals t.memory g.stack))
        (holds f.locals g.locals s.store t.memory f.stack g.stack same.stores stands.agree.locals
        stands.agree.stack) in
        one_turn (inside f outer s g others t same stands waiting) (named_step by f outer s0 i there)
        (narrow_step l g others t0 insn is_there)
        (jump_both f outer s0 g others t0 same0 stands.code waiting ks ls offsets arrives effect effect'
        (λ vs after new e. subst (λ k. Arrives tb f.method (f.at + 1) (k + 1) ks ls) (sym stands.place)
        (behind f.locals after s.store new f.stack vs e)) row (types_stay l (let code = g.code in code.max_stack)
        (g.at + 1) g.locals t.memory (operation insn) g.stack))
    by_rule f outer s g others t same stands waiting i there (goes_on ks holds low) =
        let s0 = record s { frames = f ∷ outer } in
        let waits = holds f.locals g.locals s.store t.memory f.stack g.stack stands.agree.locals stands.agree.stack
        stands.owns in
        let on = waits.on in
        let arrives = waits.comes in
        let f' = record f { at = f.at + 1; stack = on.stack } in
        let same0 : StatesAgree l (record s { spent = s.spent + 1 }) t = record {
          stores = same.stores;
          entries = same.entries;
          answers = same.answers;
          notes = same.notes;
        } in
        let stands' : Stands tb (nheap t) f' g = record {
          point = arrives.point;
          is_reached = arrives.is_reached;
          code = stands.code;
          place = stands.place ∙ arrives.place;
          agree = record {
            stack = stacks_wider arrives.stack on.agree;
            locals = locals_wider arrives.locals stands.agree.locals;
          };
          owns = arrives.owns;
        } in
        silent (inside f' outer (record s { spent = s.spent + 1 }) g others t same0 stands' waiting)
        (named_step by f outer s0 i there ∙ ap (λ e. spend by (after_effect by e f outer s0)) on.goes_on) refl
        (record { notes = refl; outcome = refl; heap = λ ended. refl; statics = λ ended. refl }) (omega (arith, low))
    by_rule f outer s g others t same stands waiting i there (jumps_in_two first_insn second_insn ks ls offsets written
        written' holds arrives behind) =
        let s0 = record s { frames = f ∷ outer } in
        let t0 = record t { frames = g ∷ others } in
        let same0 : StatesAgree l s0 (with_spent t0) = record {
          stores = same.stores;
          entries = same.entries;
          answers = same.answers;
          notes = same.notes;
        } in
        let is_there = at_place f outer s g others t same stands waiting (λ code k. slice_get code.insns k
        ≡ Some first_insn) written in
        let is_behind = at_place f outer s g others t same stands waiting (λ code k. slice_get code.insns (k + 1)
        ≡ Some second_insn) written' in
        let effect = by_name.effect by f.method f.at f.locals s.store i.op f.stack in
        let two : JumpsInTwo l ks ls offsets (place (let m = f.method in m.insns)) (written_place tb f.method)
        (f.at + 1) (g.at + 1) (g.at + 1 + 1) (let code = g.code in code.max_stack) first_insn second_insn g.locals
        t.memory g.stack effect = at_place f outer s g others t same stands waiting (λ code k. JumpsInTwo l ks ls
        offsets (place (let m = f.method in m.insns)) (written_place tb f.method) (f.at + 1) (k + 1) (k + 1 + 1)
        code.max_stack first_insn second_insn g.locals t.memory g.stack effect) (holds f.locals g.locals s.store
        t.memory f.stack g.stack same.stores stands.agree.locals stands.agree.stack) in
        let g1 = one_further g two.stack in
        let effect' = effects.effect (classes l) (operation second_insn) (let code = g.code in code.max_stack)
        (g.at + 1 + 1) g.locals t.memory two.stack in
        two_turns (inside f outer s g others t same stands waiting) (record t {
          frames = g1 ∷ others;
          spent = t.spent + 1;
        }) (named_step by f outer s0 i there)
        (narrow_step l g others t0 first_insn is_there
        ∙ ap (λ e. narrow.spent_by (by_label l) t.spent (narrow.made (by_label l) e (g.at + 1) g others
        (with_spent t0))) two.goes_on)
        (narrow_step l g1 others (record t { frames = g1 ∷ others; spent = t.spent + 1 }) second_insn is_behind)
        (jump_both f outer s0 g1 others (record t { frames = g1 ∷ others; spent = t.spent + 1 })
        (record { stores = same.stores; entries = same.entries; answers = same.answers; notes = same.notes })
        stands.code waiting ks ls offsets arrives effect effect'
        (λ vs after new e. subst (λ k. Arrives tb f.method (f.at + 1) (k + 1 + 1) ks ls) (sym stands.place)
        (behind f.locals after s.store new f.stack vs e)) two.leads (types_stay l (let code = g.code
        in code.max_stack) (g.at + 1 + 1) g.locals t.memory (operation second_insn) two.stack))
    by_rule f outer s g others t same stands waiting i there (throws within ks is written known_stack may catches) =
        let s0 = record s { frames = f ∷ outer } in
        let t0 = record t { frames = g ∷ others } in
        let same0 : StatesAgree l s0 t0 = record {
          stores = same.stores;
          entries = same.entries;
          answers = same.answers;
          notes = same.notes;
        } in
        let is_there = at_place f outer s g others t same stands waiting (λ code k. slice_get code.insns k
        ≡ Some (insns.Op 0x93)) written in
        one_turn (inside f outer s g others t same stands waiting) (named_step by f outer s0 i there
        ∙ ap (λ op. spend by (after_effect by (by_name.effect by f.method f.at f.locals s.store op f.stack) f outer
        s0)) is) (narrow_step l g others t0 (insns.Op 0x93) is_there)
        (throw_both f outer s0 g others t0 same0 stands waiting within ks may catches f.stack g.stack
        (subst (λ kinds. Stacks (nheap t) kinds f.stack g.stack) known_stack stands.agree.stack))
    by_rule f outer s g others t same stands waiting i there (returns insn kinds written holds wider) =
        let s0 = record s { frames = f ∷ outer } in
        let t0 = record t { frames = g ∷ others } in
        let same0 : StatesAgree l s0 t0 = record {
          stores = same.stores;
          entries = same.entries;
          answers = same.answers;
          notes = same.notes;
        } in
        let is_there = at_place f outer s g others t same stands waiting (λ code k. slice_get code.insns k ≡ Some insn)
        written in
        let effect = by_name.effect by f.method f.at f.locals s.store i.op f.stack in
        let effect' = effects.effect (classes l) (operation insn) (let code = g.code in code.max_stack) (g.at + 1)
        g.locals t.memory g.stack in
        let row : Returns (nheap t) kinds effect effect' = at_place f outer s g others t same stands waiting
        (λ code k. Returns (nheap t) kinds effect (effects.effect (classes l) (operation insn) code.max_stack
        (k + 1) g.locals t.memory g.stack)) (holds f.locals g.locals s.store t.memory f.stack g.stack
        stands.agree.stack) in
        one_turn (inside f outer s g others t same stands waiting) (named_step by f outer s0 i there)
        (narrow_step l g others t0 insn is_there)
        (leave_both f outer s0 g others t0 same0 stands waiting kinds wider effect effect' row)
    by_rule f outer s g others t same stands waiting i there (calls turn) =
        let s0 = record s { frames = f ∷ outer } in
        let t0 = record t { frames = g ∷ others } in
        let same0 : StatesAgree l s0 t0 = record {
          stores = same.stores;
          entries = same.entries;
          answers = same.answers;
          notes = same.notes;
        } in
        one_turn (inside f outer s g others t same stands waiting) refl refl (turn f outer s0 g others t0 refl refl
        there same0 stands refl waiting)

    at_instruction : (f : Frame) (outer : List Frame) (s : State) (g : NFrame) (others : List NFrame) (t : NState)
        (same : StatesAgree l s t) (stands : Stands tb (nheap t) f g) (waiting : Waiting by l tb (nheap t)
        (tb.results f.method) outer others) → Follows (inside f outer s g others t same stands waiting)
    at_instruction f outer s g others t same stands waiting =
        let there = fine.is_there f.method f.at stands.point stands.is_reached in
        by_rule f outer s g others t same stands waiting there.0 there.1 (fine.rules f.method f.at stands.point
        stands.is_reached there.0 there.1)

    -- ---- between entries

    begun : (s : State) (t : NState) (same : StatesAgree l s t) (m : Move State) (u : NTurn)
        → Begins by l tb t.notes m u → (e : Entry) (entries : List Entry) → t.entries ≡ e ∷ entries
        → begins by [] s.entries (record s { frames = [] }) ≡ m
        → narrow.begins (by_label l) [] t.entries (record t { frames = [] }) ≡ u → Follows (between s t same)
    begun s t same _ _ (into f outer s' g others t' same_there stands waiting noted) e entries is em eu =
        from_there (named.device by) (device (by_label l)) left_of right_of 2 measure_of (between s t same)
        (inside f outer s' g others t' same_there stands waiting)
        (ap (λ m. and_then by m (λ v. step by v.frames v)) em)
        (ap (λ u. led (by_label l) (narrow.and_then (by_label l) u (λ v. narrow.step (by_label l) v.frames v))) eu)
        (record {
          notes = sym noted;
          outcome = ap (narrow.idle (by_label l) []) is;
          heap = λ ended. absurd (ended refl);
          statics = λ ended. absurd (ended refl);
        })
        (omega arith) (at_instruction f outer s' g others t' same_there stands waiting)
    begun s t same _ _ (unfit r o t' h running stuck) e entries is em eu =
        ends r (narrow.report (by_label l) o t') 1 (ap (λ m. and_then by m (λ v. step by v.frames v)) em)
        (last (ap (λ u. led (by_label l) (narrow.and_then (by_label l) u (λ v. narrow.step (by_label l) v.frames v)))
        eu)) (omega arith) h running stuck

    at_entry : (s : State) (t : NState) (same : StatesAgree l s t) (entries : List Entry) → t.entries ≡ entries
        → Follows (between s t same)
    at_entry s t same [] is =
        let s0 = record s { frames = [] } in
        let t0 = record t { frames = [] } in
        let same0 : StatesAgree l s0 t0 = record {
          stores = same.stores;
          entries = same.entries;
          answers = same.answers;
          notes = same.notes;
        } in
        ends (named.report Done s0) (narrow.report (by_label l) Done t0) 1
        (ap (λ es. and_then by (begins by [] es s0) (λ v. step by v.frames v)) (same.entries ∙ is))
        (last (ap (λ es. led (by_label l) (narrow.and_then (by_label l) (narrow.begins (by_label l) [] es t0)
        (λ v. narrow.step (by_label l) v.frames v))) is)) (omega arith)
        (report_alike Done s0 t0 same0) (λ e. cc) (λ at e. cc)
    at_entry s t same (e ∷ entries) is =
        let s0 = record s { frames = [] } in
        let t0 = record t { frames = [] } in
        let same0 : StatesAgree l s0 t0 = record {
          stores = same.stores;
          entries = same.entries;
          answers = same.answers;
          notes = same.notes;
        } in
        begun s t same (begins by [] (e ∷ entries) s0) (narrow.begins (by_label l) [] (e ∷ entries) t0)
        (fine.entries e entries s0 t0 same0) e entries is
        (ap (λ es. begins by [] es s0) (same.entries ∙ is)) (ap (λ es. narrow.begins (by_label l) [] es t0) is)

    -- ---- whole runs

    steps : (w : Couple by l tb) → Follows w
    steps (between s t same) = at_entry s t same t.entries refl
    steps (inside f outer s g others t same stands waiting) = at_instruction f outer s g others t same stands waiting

    idle_same : (entries : List Entry) → narrow.idle (by_label l) [] entries ≡ idle by [] entries
    idle_same [] = refl
    idle_same (e ∷ entries) = refl

    rests : (w : Couple by l tb) → Alike ((device (by_label l)).rest (right_of w)) ((named.device by).rest (left_of w))
    unfolding by_label
    rests (between s t same) =
        let stores = same.stores in
        record {
          notes = sym same.notes;
          outcome = idle_same t.entries ∙ ap (idle by []) (sym same.entries);
          heap = λ ended. sym stores.heap;
          statics = λ ended. sym stores.statics;
        }
    rests (inside f outer s g others t same stands waiting) =
        let stores = same.stores in
        record {
          notes = sym same.notes;
          outcome = refl;
          heap = λ ended. sym stores.heap;
          statics = λ ended. sym stores.statics;
        }

    not_stuck : (entries : List Entry) (at : ℕ) → idle by [] entries ≢ Stuck at
    not_stuck [] at = λ e. cc
    not_stuck (e ∷ entries) at = λ e. cc

    free : (w : Couple by l tb) (at : ℕ) → ((named.device by).rest (left_of w)).outcome ≢ Stuck at
    free (between s t same) at = not_stuck s.entries at
    free (inside f outer s g others t same stands waiting) at = λ e. cc

    small : (w : Couple by l tb) → measure_of w ≤ 65534
    small (between s t same) = omega arith
    small (inside f outer s g others t same stands waiting) = omega arith

    pub simulates : Simulates (named.device by) (device (by_label l)) left_of right_of 2 measure_of
    simulates = record { steps = steps; rests = rests; free = free; small = small }

pub runs_agree : (by : Linked) (l : Named) (tb : Table) → IsFine by l tb → (script : Script)
    → Agree 2 (λ n. named.run by script n) (λ n. labels.run l script n)
runs_agree by l tb fine script =
    let first_state = narrow.start l.memory script in
    let w : Couple by l tb = between (named.start by script) first_state (record {
      stores = fine.starts;
      entries = refl;
      answers = refl;
      notes = refl;
    }) in
    agree_through (agree (named.device by) (device (by_label l)) (left_of by l tb) (right_of by l tb) 2
    (measure_of by l tb) (simulates by l tb fine) (machine_lawful (by_label l)) w)
    (λ n free. sym (run_same (by_label l) n first_state))
