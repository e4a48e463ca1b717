-- Calls of the package's methods keep their rules.
use Rattle.std.proofs.Common.{◌≡◌, ℕ, ◌+◌, refl, sym, ap, subst, ◌∙◌, Bool, true, List, [], ◌∷◌, ◌++◌}
use Rattle.std.specs.Prelude.{Some, reverse, slice_get}
use Rattle.cjc_bytes.specs.declared.fault.MemberId.{MemberId}
use Rattle.cjc_code.specs.declared.insn.JInsn.{JInsn}
use Rattle.cjc_script.specs.declared.script.Entry.{Entry}
use Rattle.cjc_script.specs.declared.report.Note.{Note}
use Rattle.cjc_script.specs.declared.report.Outcome.TheVariants.{Unfit}
use Rattle.cjc_script.specs.Sorts.{Shape, OfClass, Signature}
use Rattle.cjc_bytecode.specs.Runs.{Move}
use Rattle.cjc_bytecode.specs.Effects as effects
use Rattle.cjc_bytecode.specs.Machine as narrow
use Rattle.cjc_ncode.specs.ByLabel.{Callee, Named, by_label}
use Rattle.cjc_by_name.specs.Linked.{Method, Linked}
use Rattle.cjc_by_name.specs.Effects.{Fault, exception_class}
use Rattle.cjc_by_name.specs.Effects as by_name
use Rattle.cjc_by_name.specs.Machine.{Frame, State, frame_for_call, after_effect, step, room, report, begins as named_begins}
use Rattle.cjc_shrink.specs.Relation.{Kind, Refers, Stacks}
use Rattle.cjc_shrink.specs.Rows.{HasRoom}
use Rattle.cjc_shrink.specs.Calls.{NFrame, NState, NTurn, CallAgrees, begins, fails, IsStaticCall, IsObjectCall}
use Rattle.cjc_shrink.specs.Throws.{nheap, IsRaised}
use Rattle.cjc_shrink.specs.Acts.{ActsAlike}
use Rattle.cjc_shrink.specs.Replies.{StatesAgree}
use Rattle.cjc_shrink.specs.Entries.{MayEnter, IsEntry, entry_kinds, EntryAgrees}
use Rattle.cjc_shrink.specs.Entries as entries_spec
use Rattle.cjc_shrink.specs.Turns.{with_spent}
use Rattle.cjc_shrink.specs.Tables.{Point, Table, class_of_code, code_of, Arrives, Stands, Waits, Waiting, no_frame, a_frame, inside}
use Rattle.cjc_shrink.specs.Runs.{Both, onward, Rule, calls, Begins, into, unfit}
use Rattle.cjc_shrink.specs.Reached.{CallsInside, MayBeCalled, MayBegin}
use Rattle.cjc_shrink.proofs.Begins.{static_call, object_call}
use Rattle.cjc_shrink.proofs.Entries.{entry_begun}
use Rattle.cjc_shrink.proofs.Paths.{turns_are}
use Rattle.cjc_shrink.proofs.Whole.{both_spent, Meets, failed_both, report_alike}
use Rattle.cjc_shrink.proofs.Widens.{stacks_wider, locals_wider}

module _ (by : Linked) (l : Named) (tb : Table) (raises : (fault : Fault) → IsRaised l fault) (may_raise : (fault : Fault) → tb.may_throw (OfClass (exception_class fault)) ≡ true) where
  module _ (i : JInsn) (op : ℕ) (id : MemberId) (named : Callee) (params : List Kind) (f : Frame) (outer : List Frame) (s : State) (g : NFrame) (others : List NFrame) (t : NState)
      (same : StatesAgree l s t) (stands : Stands tb (nheap t) f g) (waiting : Waiting by l tb (nheap t) (tb.results f.method) outer others) (facts : CallsInside by l tb f.method f.at stands.point i op id named params) where
    abbrev known : List Kind
    known = let p = stands.point in p.locals

    abbrev MayReach : Method → Type 0
    MayReach = MayBeCalled tb f.method f.at params facts.ks known

    same' : StatesAgree l s (with_spent t)
    same' = record { stores = same.stores; entries = same.entries; answers = same.answers; notes = same.notes }

    pub stack_known : Stacks (nheap t) (reverse params ++ facts.ks) f.stack g.stack
    stack_known = subst (λ kinds. Stacks (nheap t) kinds f.stack g.stack) facts.stack stands.agree.stack

    -- what is reached begins above frames that wait, or null raises
    call_both : {m : Move State} {u : NTurn} → CallAgrees by l tb.narrowed MayReach params facts.ks (g.at + 1) f outer s g others (with_spent t) m u → Both by l tb m u
    call_both (begins callee args words vs ws may frames low) =
        let enters = may.enters in
        let stands' : Stands tb (nheap t) (frame_for_call callee args) (narrow.entered (tb.narrowed callee) words) = record {
          point = enters.point;
          is_reached = enters.is_reached;
          code = refl;
          place = enters.place;
          agree = record { stack = stacks_wider enters.stack frames.stack; locals = locals_wider enters.locals frames.locals };
        } in
        let waits : Waits by l tb (nheap t) (tb.results callee) (record f { stack = vs }) (record g { next = g.at + 1; stack = ws }) = record {
          ks = facts.ks;
          ls = known;
          code = stands.code;
          place = stands.place;
          agree = record { stack = low; locals = stands.agree.locals };
          arrives = subst (λ k. Arrives tb f.method (f.at + 1) (k + 1) (tb.results callee ++ facts.ks) known) (sym stands.place) may.resumes;
          has_room = subst (λ code. HasRoom (tb.results callee ++ facts.ks) (room f) code.max_stack) (sym stands.code) may.has_room;
          catches = facts.catches;
        } in
        onward (inside (frame_for_call callee args) (record f { stack = vs } ∷ outer) s (narrow.entered (tb.narrowed callee) words) (record g { next = g.at + 1; stack = ws } ∷ others) (with_spent t) same' stands' (a_frame waits waiting))
    call_both (fails fault vs ws) =
        let meets : Meets by l tb (nheap t) (record f { stack = vs }) (record g { next = g.at + 1; stack = ws }) = record { ls = known; held = stands.agree.locals; code = stands.code; place = stands.place; catches = facts.catches } in
        failed_both by l tb (record f { stack = vs }) outer s (record g { next = g.at + 1; stack = ws }) others (with_spent t) same' meets waiting fault (raises fault) (may_raise fault)

    -- the turn of the call
    pub call_turn : slice_get (let m = f.method in m.insns) f.at ≡ Some i → CallAgrees by l tb.narrowed MayReach params facts.ks (g.at + 1) f outer s g others (with_spent t) (after_effect by (by_name.Invoke op id) f outer s) (narrow.made (by_label l) (effects.Invoke named) (g.at + 1) g others (with_spent t))
        → Both by l tb (step by (f ∷ outer) s) (narrow.step (by_label l) (g ∷ others) t)
    call_turn there agrees =
        let here : slice_get (let code = g.code in code.insns) g.at ≡ Some facts.insn = ap (λ code. slice_get code.insns g.at) stands.code ∙ ap (slice_get (let code = code_of tb f.method in code.insns)) stands.place ∙ facts.is_written in
        let both = facts.is_named (let code = g.code in code.max_stack) (g.at + 1) f.stack g.stack f.locals g.locals s.store t.memory in
        let turns = turns_are by l f outer s g others t i facts.insn there here (by_name.Invoke op id) (effects.Invoke named) (ap (λ op. by_name.effect by f.method f.at f.locals s.store op f.stack) facts.is_call ∙ both.named_side) both.narrow_side in
        subst (λ m. Both by l tb m (narrow.step (by_label l) (g ∷ others) t)) (sym turns.by_name)
        (subst (Both by l tb _) (sym turns.narrow) (both_spent by l tb t.spent (call_both agrees)))

  -- a static method
  record StaticFacts (m : Method) (at : ℕ) (p : Point) (i : JInsn) (op : ℕ) (id : MemberId) (named : Callee) (params : List Kind) : Type 0 where
    pub facts : CallsInside by l tb m at p i op id named params
    pub call : IsStaticCall by l tb.narrowed (class_of_code m) op id named params
    pub may : MayBeCalled tb m at params facts.ks p.locals call.callee

  static_turn : (i : JInsn) (op : ℕ) (id : MemberId) (named : Callee) (params : List Kind) (f : Frame) (outer : List Frame) (s : State) (g : NFrame) (others : List NFrame) (t : NState) → slice_get (let n = f.method in n.insns) f.at ≡ Some i → StatesAgree l s t → (stands : Stands tb (nheap t) f g) → Waiting by l tb (nheap t) (tb.results f.method) outer others
      → StaticFacts f.method f.at stands.point i op id named params → Both by l tb (step by (f ∷ outer) s) (narrow.step (by_label l) (g ∷ others) t)
  static_turn i op id named params f outer s g others t there same stands waiting known =
      let facts = known.facts in
      let p = stands.point in
      call_turn i op id named params f outer s g others t same stands waiting facts there
      (static_call by l tb.narrowed (MayBeCalled tb f.method f.at params facts.ks p.locals) op id named params facts.ks p.locals (g.at + 1) f outer s g others (with_spent t) known.call known.may
      (record { stack = stack_known i op id named params f outer s g others t same stands waiting facts; locals = stands.agree.locals }))

  pub static_rule : (m : Method) (at : ℕ) (p : Point) (i : JInsn) (op : ℕ) (id : MemberId) (named : Callee) (params : List Kind) → (facts : CallsInside by l tb m at p i op id named params) → (call : IsStaticCall by l tb.narrowed (class_of_code m) op id named params) → MayBeCalled tb m at params facts.ks p.locals call.callee → Rule by l tb m at p i
  static_rule m at p i op id named params facts call may =
      let bundle : StaticFacts m at p i op id named params = record { facts = facts; call = call; may = may } in
      calls (λ f outer s g others t is_method is_at there same stands is_point waiting.
      static_turn i op id named params f outer s g others t there same stands waiting
      (subst (λ q. StaticFacts f.method f.at q i op id named params) (sym is_point)
      (subst (λ k. StaticFacts f.method k p i op id named params) (sym is_at)
      (subst (λ n. StaticFacts n at p i op id named params) (sym is_method) bundle))))

  -- a method that is selected on a receiver
  record ObjectFacts (m : Method) (at : ℕ) (p : Point) (i : JInsn) (op : ℕ) (id : MemberId) (named : Callee) (within : Shape (List ℕ) → Bool) (params : List Kind) : Type 0 where
    pub facts : CallsInside by l tb m at p i op id named (Refers within ∷ params)
    pub call : IsObjectCall by l tb.narrowed (class_of_code m) op id named within params
    pub may : (kind : Shape (List ℕ)) (is : within kind ≡ true) → let h = call.selects kind is in MayBeCalled tb m at (Refers within ∷ params) facts.ks p.locals h.callee

  object_turn : (i : JInsn) (op : ℕ) (id : MemberId) (named : Callee) (within : Shape (List ℕ) → Bool) (params : List Kind) (f : Frame) (outer : List Frame) (s : State) (g : NFrame) (others : List NFrame) (t : NState) → slice_get (let n = f.method in n.insns) f.at ≡ Some i → StatesAgree l s t → (stands : Stands tb (nheap t) f g) → Waiting by l tb (nheap t) (tb.results f.method) outer others
      → ObjectFacts f.method f.at stands.point i op id named within params → Both by l tb (step by (f ∷ outer) s) (narrow.step (by_label l) (g ∷ others) t)
  object_turn i op id named within params f outer s g others t there same stands waiting known =
      let facts = known.facts in
      let p = stands.point in
      call_turn i op id named (Refers within ∷ params) f outer s g others t same stands waiting facts there
      (object_call by l tb.narrowed (MayBeCalled tb f.method f.at (Refers within ∷ params) facts.ks p.locals) op id named within params facts.ks p.locals (g.at + 1) f outer s g others (with_spent t) known.call known.may same.stores
      (record { stack = stack_known i op id named (Refers within ∷ params) f outer s g others t same stands waiting facts; locals = stands.agree.locals }))

  pub object_rule : (m : Method) (at : ℕ) (p : Point) (i : JInsn) (op : ℕ) (id : MemberId) (named : Callee) (within : Shape (List ℕ) → Bool) (params : List Kind) → (facts : CallsInside by l tb m at p i op id named (Refers within ∷ params)) → (call : IsObjectCall by l tb.narrowed (class_of_code m) op id named within params) → ((kind : Shape (List ℕ)) (is : within kind ≡ true) → let h = call.selects kind is in MayBeCalled tb m at (Refers within ∷ params) facts.ks p.locals h.callee) → Rule by l tb m at p i
  object_rule m at p i op id named within params facts call may =
      let bundle : ObjectFacts m at p i op id named within params = record { facts = facts; call = call; may = may } in
      calls (λ f outer s g others t is_method is_at there same stands is_point waiting.
      object_turn i op id named within params f outer s g others t there same stands waiting
      (subst (λ q. ObjectFacts f.method f.at q i op id named within params) (sym is_point)
      (subst (λ k. ObjectFacts f.method k p i op id named within params) (sym is_at)
      (subst (λ n. ObjectFacts n at p i op id named within params) (sym is_method) bundle))))

-- ---- entries

entry_both : (by : Linked) (l : Named) (tb : Table) (params : List Kind) (e : Entry) (entries : List Entry) (noted : List Note) → ((m : Method) → MayEnter by e.method m → MayBegin tb params m) → {m : Move State} {u : NTurn} → EntryAgrees by l tb.narrowed params e entries noted m u → Begins by l tb noted m u
entry_both by l tb params e entries noted may (entries_spec.begins s t m words entered same_notes same frames) =
    let h = may m entered in
    let enters = h.enters in
    let stands : Stands tb (nheap t) (frame_for_call m e.args) (narrow.entered (tb.narrowed m) words) = record {
      point = enters.point;
      is_reached = enters.is_reached;
      code = refl;
      place = enters.place;
      agree = record { stack = stacks_wider enters.stack frames.stack; locals = locals_wider enters.locals frames.locals };
    } in
    into (frame_for_call m e.args) [] (record s { entries = entries }) (narrow.entered (tb.narrowed m) words) [] (record t { entries = entries }) same stands (no_frame h.short) same_notes
entry_both by l tb params e entries noted may (entries_spec.unfit {s = s} {t = t} same) =
    unfit (report (Unfit e.number) s) (Unfit e.number) t (report_alike by l tb (Unfit e.number) s t same) (λ e. cc) (λ at e. cc)

pub entry_rule : (by : Linked) (l : Named) (tb : Table) (types : Signature) (within : Shape (List ℕ) → Bool) (e : Entry) (entries : List Entry) → ActsAlike by l → IsEntry by l tb.narrowed e.method types within → ((m : Method) → MayEnter by e.method m → MayBegin tb (entry_kinds e.virtual_call l within types) m) → (s : State) (t : NState) → StatesAgree l s t
    → Begins by l tb t.notes (named_begins by [] (e ∷ entries) s) (narrow.begins (by_label l) [] (e ∷ entries) t)
entry_rule by l tb types within e entries acts is may s t same =
    entry_both by l tb (entry_kinds e.virtual_call l within types) e entries t.notes may (entry_begun by l tb.narrowed types within e entries acts is s t same)
