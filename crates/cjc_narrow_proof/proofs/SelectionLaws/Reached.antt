-- Calls of the package's methods keep their rules.
use Rattle.std.proofs.Common.{◌≡◌, ℕ, ◌+◌, refl, sym, ap, subst, ◌∙◌, Bool, true, List, [], ◌∷◌, ◌++◌, length, take}
use Rattle.std.proofs.Common.{drop, reverse}
use Rattle.std.specs.Prelude.{Some, None, slice_get}
use Rattle.cjc_bytes.specs.declared.fault.MemberId.{MemberId}
use Rattle.cjc_code.specs.declared.insn.JInsn.{JInsn}
use Rattle.cjc_script.specs.declared.script.Entry.{Entry}
use Rattle.cjc_script.specs.declared.report.Note.{Note}
use Rattle.cjc_script.specs.declared.report.Outcome.TheVariants.{Waiting as WaitingOutcome, Unfit}
use Rattle.cjc_script.specs.declared.value.Value.{Value}
use Rattle.cjc_script.specs.declared.value.Value.TheVariants.{Obj}
use Rattle.cjc_script.specs.Sorts.{Shape, Signature, shape_name}
use Rattle.cjc_card_semantics.specs.Bytecode.Runs.{Move}
use Rattle.cjc_card_semantics.specs.Bytecode.Effects.{HeapObject, shape}
use Rattle.cjc_card_semantics.specs.Bytecode.Effects as effects
use Rattle.cjc_card_semantics.specs.Bytecode.Machine as narrow
use Rattle.cjc_ncode.specs.ByLabel.{Callee, Named, by_label}
use Rattle.cjc_jvm_semantics.specs.Linked.{Method, Linked}
use Rattle.cjc_jvm_semantics.specs.Linked
use Rattle.cjc_jvm_semantics.specs.Effects.{Fault, NullPointer}
use Rattle.cjc_jvm_semantics.specs.Effects as by_name
use Rattle.cjc_jvm_semantics.specs.Machine.{Frame, State, frame_for_call, at_callee, after_fault, after_effect, step}
use Rattle.cjc_jvm_semantics.specs.Machine.{room, report, begins as named_begins}
use Rattle.cjc_narrow_proof.specs.Selection.Relation.{OnBoth, Kind, Refers, Stacks, IsMadeOf}
use Rattle.cjc_narrow_proof.specs.Selection.Relation.{all_there}
use Rattle.cjc_narrow_proof.specs.Selection.Rows.{HasRoom, narrow_fault}
use Rattle.cjc_narrow_proof.specs.Selection.Calls.{NFrame, NState, NTurn, CallAgrees, begins, fails, IsStaticCall}
use Rattle.cjc_narrow_proof.specs.Selection.Calls.{IsReceiverCall}
use Rattle.cjc_narrow_proof.specs.Selection.Throws.{nheap}
use Rattle.cjc_narrow_proof.specs.Selection.Acts.{ActsAlike}
use Rattle.cjc_narrow_proof.specs.Selection.Replies.{StatesAgree, result_kinds, IsStaticImport, Replies, goes_on}
use Rattle.cjc_narrow_proof.specs.Selection.Replies.{waits as waits_for_answer, is_unfit, AnswersLand}
use Rattle.cjc_narrow_proof.specs.Selection.Replies as replies
use Rattle.cjc_narrow_proof.specs.Selection.Entries.{MayEnter, IsEntry, IsNoEntry, entry_kinds, EntryAgrees}
use Rattle.cjc_narrow_proof.specs.Selection.Entries as entries_spec
use Rattle.cjc_narrow_proof.specs.Selection.Turns.{with_spent}
use Rattle.cjc_narrow_proof.specs.Selection.Tables.{Point, Table, MayRaise, class_of_code, code_of, Arrives, Stands}
use Rattle.cjc_narrow_proof.specs.Selection.Tables.{Waits, Waiting, no_frame, a_frame, inside}
use Rattle.cjc_narrow_proof.specs.Selection.Runs.{Both, onward, over, Rule, calls, Begins, into, unfit}
use Rattle.cjc_narrow_proof.specs.Selection.Reached.{IsCallAt, MayBeCalled, MayBeAnswered, MaySelectOn, IsAnswered}
use Rattle.cjc_narrow_proof.specs.Selection.Reached.{MayBegin}
use Rattle.cjc_narrow_proof.specs.Selection.Reached as reached
use Rattle.cjc_narrow_proof.proofs.SelectionLaws.Begins.{to_static, static_call, to_receiver, receive_both}
use Rattle.cjc_narrow_proof.proofs.SelectionLaws.Begins.{selected_both}
use Rattle.cjc_narrow_proof.proofs.SelectionLaws.Entries.{entry_begun, none_begun}
use Rattle.cjc_narrow_proof.proofs.SelectionLaws.Imports.{static_reached, selected_abroad}
use Rattle.cjc_narrow_proof.proofs.SelectionLaws.Paths.{turns_are}
use Rattle.cjc_narrow_proof.proofs.SelectionLaws.Whole.{both_spent, waiting_kept, comes, arrived, Meets, meets_kept}
use Rattle.cjc_narrow_proof.proofs.SelectionLaws.Whole.{raised_both, failed_both, report_alike}
use Rattle.cjc_narrow_proof.proofs.SelectionLaws.Widens.{stacks_wider, locals_wider}

module _ (by : Linked) (l : Named) (tb : Table) (may_raise : MayRaise l tb) where
  module _ (i : JInsn) (op : ℕ) (id : MemberId) (named : Callee) (params : List Kind) (f : Frame) (outer : List Frame)
      (s : State) (g : NFrame) (others : List NFrame) (t : NState)
      (same : StatesAgree l s t) (stands : Stands tb (nheap t) f g) (waiting : Waiting by l tb (nheap t)
      (tb.results f.method) outer others) (facts : IsCallAt by l tb f.method f.at stands.point i op id named params)
    where
      abbrev known : List Kind
      known = let p = stands.point in p.locals

      -- the frames that wait, with what is left on their stacks
      abbrev waits : List Value → Frame
      waits vs = record f { stack = vs }

      abbrev waiting_at : List Value → NFrame
      waiting_at ws = record g { next = g.at + 1; stack = ws }

      pub same' : StatesAgree l s (with_spent t)
      same' = record { stores = same.stores; entries = same.entries; answers = same.answers; notes = same.notes }

      pub stack_known : Stacks (nheap t) (reverse params ++ facts.ks) f.stack g.stack
      stack_known = subst (λ kinds. Stacks (nheap t) kinds f.stack g.stack) facts.stack stands.agree.stack

      meets : (vs ws : List Value) → Meets by l tb (nheap t) (waits vs) (waiting_at ws)
      meets vs ws = record {
        ls = known;
        held = stands.agree.locals;
        code = stands.code;
        place = stands.place;
        catches = facts.catches;
      }

      pub fails_both : (fault : Fault) (vs ws : List Value) → Both by l tb (after_fault by fault (waits vs) outer s)
          (narrow.turn_after_fault (by_label l) (narrow_fault fault) (waiting_at ws) others (with_spent t))
      fails_both fault vs ws = failed_both by l tb (waits vs) outer s (waiting_at ws) others (with_spent t) same'
          (meets vs ws) waiting fault (may_raise.raises fault) (may_raise.may_raise fault)

      -- what is reached begins above frames that wait, or null raises
      pub call_both : (given : Method → List Kind) {m : Move State} {u : NTurn}
          → CallAgrees by l tb.narrowed (λ n. MayBeCalled tb f.method f.at (given n) facts.ks known n) given facts.ks
          (g.at + 1) f outer s g others (with_spent t) m u → Both by l tb m u
      call_both given (begins callee args words vs ws may frames low) =
          let enters = may.enters in
          let stands' : Stands tb (nheap t) (frame_for_call callee args) (narrow.frame_for_call (tb.narrowed callee)
          words) = record {
            point = enters.point;
            is_reached = enters.is_reached;
            code = refl;
            place = enters.place;
            agree = record {
              stack = stacks_wider enters.stack frames.stack;
              locals = locals_wider enters.locals frames.locals;
            };
            owns = all_there enters.all_there;
          } in
          let in_caller : Waits by l tb (nheap t) (tb.results callee) (waits vs) (waiting_at ws) = record {
            ks = facts.ks;
            ls = known;
            code = stands.code;
            place = stands.place;
            agree = record { stack = low; locals = stands.agree.locals };
            arrives = subst (λ k. Arrives tb f.method (f.at + 1) (k + 1) (tb.results callee ++ facts.ks) known)
                (sym stands.place) may.resumes;
            has_room = subst (λ code. HasRoom (tb.results callee ++ facts.ks) (room f) code.max_stack) (sym stands.code)
                may.has_room;
            catches = facts.catches;
          } in
          onward (inside (frame_for_call callee args) (waits vs ∷ outer) s (narrow.frame_for_call (tb.narrowed callee)
          words) (waiting_at ws ∷ others) (with_spent t) same' stands' (a_frame in_caller waiting))
      call_both given (fails fault vs ws) = fails_both fault vs ws

      -- an imported method is answered
      abbrev pub LandsBoth : (class : List ℕ) → State → NState → Move State → NTurn → Type 0
      LandsBoth class u v m n = Both by l tb m n

      pub lands_both : IsAnswered by l tb → (vs ws : List Value) → AnswersLand by l LandsBoth (nheap t) (waits vs) outer
          (waiting_at ws) others
      lands_both answered vs ws = record {
        acts = answered.acts;
        throws = answered.throws;
        lands = λ class may u v agree keeps otherwise. (let thrown = answered.throws class
            in raised_both by l tb (waits vs) outer u (waiting_at ws) others v agree (meets_kept by l tb keeps
            (meets vs ws)) (waiting_kept by l tb keeps waiting) class (thrown.imported may) (answered.may_throw class
            may)
            otherwise);
      }

      pub replies_both : (results : List Kind) → MayBeAnswered tb f.method f.at results facts.ks known
          → (vs ws : List Value) {m : Move State} {u : NTurn} → Replies by l LandsBoth (nheap t) results facts.ks known
          (waits vs) outer (waiting_at ws) others m u → Both by l tb m u
      replies_both results may vs ws (goes_on {s = u} {t = v} {vs = after} {ws = after'} agree keeps stack held) =
          onward (inside (record f { at = f.at + 1; stack = after }) outer u (record (waiting_at ws) {
            at = g.at + 1;
            stack = after';
          }) others v agree
          (arrived by l tb (waits vs) (waiting_at ws) (nheap v) (f.at + 1) (g.at + 1) (results ++ facts.ks) known after
          after' f.locals g.locals stands.code (comes by l tb after g.locals (subst (λ k. Arrives tb f.method (f.at + 1)
          (k + 1) (results ++ facts.ks) known) (sym stands.place) may.resumes)) stack held)
          (waiting_kept by l tb keeps waiting))
      replies_both results may vs ws (replies.throws class both) = both
      replies_both results may vs ws (waits_for_answer {s = u} {t = v} agree) =
          over (report WaitingOutcome u) WaitingOutcome v (report_alike by l tb WaitingOutcome u v agree) (λ e. cc)
          (λ at e. cc)
      replies_both results may vs ws (is_unfit {s = u} {t = v} number agree) =
          over (report (Unfit number) u) (Unfit number) v (report_alike by l tb (Unfit number) u v agree) (λ e. cc)
          (λ at e. cc)

      pub roomy : (results : List Kind) → MayBeAnswered tb f.method f.at results facts.ks known
          → HasRoom (results ++ facts.ks) (room f) (let code = g.code in code.max_stack)
      roomy results may = subst (λ code. HasRoom (results ++ facts.ks) (room f) code.max_stack) (sym stands.code)
          may.has_room

      -- the turn of the call
      pub call_turn : slice_get (let m = f.method in m.insns) f.at ≡ Some i
          → Both by l tb (after_effect by (by_name.Invoke op id) f outer s) (narrow.made (by_label l)
          (effects.Invoke named) (g.at + 1) g others (with_spent t))
          → Both by l tb (step by (f ∷ outer) s) (narrow.step (by_label l) (g ∷ others) t)
      call_turn there agrees =
          let here : slice_get (let code = g.code in code.insns) g.at ≡ Some facts.insn =
          ap (λ code. slice_get code.insns g.at) stands.code ∙ ap (slice_get (let code = code_of tb f.method
          in code.insns)) stands.place ∙ facts.is_written in
          let both = facts.is_named (let code = g.code in code.max_stack) (g.at + 1) f.stack g.stack f.locals g.locals
          s.store t.memory in
          let turns = turns_are by l f outer s g others t i facts.insn there here (by_name.Invoke op id)
          (effects.Invoke named) (ap (λ op. by_name.effect by f.method f.at f.locals s.store op f.stack) facts.is_call
          ∙ both.named_side) both.narrow_side in
          subst (λ m. Both by l tb m (narrow.step (by_label l) (g ∷ others) t)) (sym turns.by_name)
          (subst (Both by l tb _) (sym turns.narrow) (both_spent by l tb t.spent agrees))

  -- ---- a static method

  record StaticFacts (m : Method) (at : ℕ) (p : Point) (i : JInsn) (op : ℕ) (id : MemberId) (named : Callee)
      (params : List Kind) : Type 0 where
    pub facts : IsCallAt by l tb m at p i op id named params
    pub call : IsStaticCall by l tb.narrowed (class_of_code m) op id named params
    pub may : MayBeCalled tb m at params facts.ks p.locals call.callee

  static_turn : (i : JInsn) (op : ℕ) (id : MemberId) (named : Callee) (params : List Kind) (f : Frame)
      (outer : List Frame) (s : State) (g : NFrame) (others : List NFrame) (t : NState)
      → slice_get (let n = f.method in n.insns) f.at ≡ Some i → StatesAgree l s t → (stands : Stands tb (nheap t) f g)
      → Waiting by l tb (nheap t) (tb.results f.method) outer others
      → StaticFacts f.method f.at stands.point i op id named params
      → Both by l tb (step by (f ∷ outer) s) (narrow.step (by_label l) (g ∷ others) t)
  static_turn i op id named params f outer s g others t there same stands waiting bundle =
      let facts = bundle.facts in
      let p = stands.point in
      call_turn i op id named params f outer s g others t same stands waiting facts there
      (call_both i op id named params f outer s g others t same stands waiting facts (λ n. params)
      (static_call by l tb.narrowed (MayBeCalled tb f.method f.at params facts.ks p.locals) op id named params facts.ks
      p.locals (g.at + 1) f outer s g others (with_spent t) bundle.call bundle.may
      (record {
        stack = stack_known i op id named params f outer s g others t same stands waiting facts;
        locals = stands.agree.locals;
      })))

  pub static_rule : (m : Method) (at : ℕ) (p : Point) (i : JInsn) (op : ℕ) (id : MemberId) (named : Callee)
      (params : List Kind) → (facts : IsCallAt by l tb m at p i op id named params)
      → (call : IsStaticCall by l tb.narrowed (class_of_code m) op id named params)
      → MayBeCalled tb m at params facts.ks p.locals call.callee → Rule by l tb m at p i
  static_rule m at p i op id named params facts call may =
      let bundle : StaticFacts m at p i op id named params = record { facts = facts; call = call; may = may } in
      calls (λ f outer s g others t is_method is_at there same stands is_point waiting.
      static_turn i op id named params f outer s g others t there same stands waiting
      (subst (λ q. StaticFacts f.method f.at q i op id named params) (sym is_point)
      (subst (λ k. StaticFacts f.method k p i op id named params) (sym is_at)
      (subst (λ n. StaticFacts n at p i op id named params) (sym is_method) bundle))))

  module _ (answered : IsAnswered by l tb) where
    -- ---- a static imported method

    record ImportFacts (m : Method) (at : ℕ) (p : Point) (i : JInsn) (op : ℕ) (id event : MemberId) (named : Callee)
        (types : Signature) (params : List Kind) : Type 0 where
      pub facts : IsCallAt by l tb m at p i op id named params
      pub call : IsStaticImport by l (class_of_code m) op id event named types params
      pub may : MayBeAnswered tb m at (result_kinds l types.result) facts.ks p.locals

    import_turn : (i : JInsn) (op : ℕ) (id event : MemberId) (named : Callee) (types : Signature) (params : List Kind)
        (f : Frame) (outer : List Frame) (s : State) (g : NFrame) (others : List NFrame) (t : NState)
        → slice_get (let n = f.method in n.insns) f.at ≡ Some i → StatesAgree l s t → (stands : Stands tb (nheap t) f g)
        → Waiting by l tb (nheap t) (tb.results f.method) outer others
        → ImportFacts f.method f.at stands.point i op id event named types params
        → Both by l tb (step by (f ∷ outer) s) (narrow.step (by_label l) (g ∷ others) t)
    import_turn i op id event named types params f outer s g others t there same stands waiting bundle =
        let facts = bundle.facts in
        let call = bundle.call in
        let p = stands.point in
        let import_is = call.is in
        let agree = same' i op id named params f outer s g others t same stands waiting facts in
        let n = length types.params in
        call_turn i op id named params f outer s g others t same stands waiting facts there
        (to_static by l op id named types params facts.ks (g.at + 1) f outer s g others (with_spent t) (Both by l tb)
        (Linked.Abroad event) call.by_name import_is.has_types import_is.passes call.narrow_class call.narrow_words
        (stack_known i op id named params f outer s g others t same stands waiting facts) (λ plain passed low.
        let vs = drop n f.stack in
        let ws = drop n g.stack in
        replies_both i op id named params f outer s g others t same stands waiting facts (result_kinds l types.result)
        bundle.may vs ws
        (static_reached by l (LandsBoth i op id named params f outer s g others t same stands waiting facts) op id event
        named types params facts.ks p.locals (g.at + 1) f outer s g others (with_spent t) call agree
        stands.agree.locals (roomy i op id named params f outer s g others t same stands waiting facts
        (result_kinds l types.result) bundle.may) (reverse (take n f.stack)) (reverse (take n g.stack)) vs ws passed
        low
        (lands_both i op id named params f outer s g others t same stands waiting facts answered vs ws))))

    pub import_rule : (m : Method) (at : ℕ) (p : Point) (i : JInsn) (op : ℕ) (id event : MemberId) (named : Callee)
        (types : Signature) (params : List Kind) → (facts : IsCallAt by l tb m at p i op id named params)
        → IsStaticImport by l (class_of_code m) op id event named types params
        → MayBeAnswered tb m at (result_kinds l types.result) facts.ks p.locals → Rule by l tb m at p i
    import_rule m at p i op id event named types params facts call may =
        let bundle : ImportFacts m at p i op id event named types params = record {
          facts = facts;
          call = call;
          may = may;
        } in
        calls (λ f outer s g others t is_method is_at there same stands is_point waiting.
        import_turn i op id event named types params f outer s g others t there same stands waiting
        (subst (λ q. ImportFacts f.method f.at q i op id event named types params) (sym is_point)
        (subst (λ k. ImportFacts f.method k p i op id event named types params) (sym is_at)
        (subst (λ n. ImportFacts n at p i op id event named types params) (sym is_method) bundle))))

    -- ---- a method that is selected on a receiver

    record ObjectFacts (m : Method) (at : ℕ) (p : Point) (i : JInsn) (op : ℕ) (id : MemberId) (named : Callee)
        (within : Shape (List ℕ) → Bool) (types : Signature) (params : List Kind) : Type 0 where
      pub facts : IsCallAt by l tb m at p i op id named (Refers within ∷ params)
      pub call : IsReceiverCall by l (class_of_code m) op id named within types params
      pub may : (kind : Shape (List ℕ)) → within kind ≡ true → IsMadeOf l kind
          → MaySelectOn by l tb m at id named within types params facts.ks p.locals call.selected kind

    object_turn : (i : JInsn) (op : ℕ) (id : MemberId) (named : Callee) (within : Shape (List ℕ)
        → Bool) (types : Signature) (params : List Kind) (f : Frame) (outer : List Frame) (s : State) (g : NFrame)
        (others : List NFrame) (t : NState) → slice_get (let n = f.method in n.insns) f.at ≡ Some i → StatesAgree l s t
        → (stands : Stands tb (nheap t) f g) → Waiting by l tb (nheap t) (tb.results f.method) outer others
        → ObjectFacts f.method f.at stands.point i op id named within types params
        → Both by l tb (step by (f ∷ outer) s) (narrow.step (by_label l) (g ∷ others) t)
    object_turn i op id named within types params f outer s g others t there same stands waiting bundle =
        let facts = bundle.facts in
        let call = bundle.call in
        let all = Refers within ∷ params in
        let n = length types.params in
        call_turn i op id named all f outer s g others t same stands waiting facts there
        (to_receiver by l op id named within types params facts.ks (g.at + 1) f outer s g others (with_spent t)
        (Both by l tb) call (stack_known i op id named all f outer s g others t same stands waiting facts)
        (λ plain passed rest.
        receive_both by l named within params facts.ks (g.at + 1) f outer s g others (with_spent t) (Both by l tb)
        call.selected types.result same.stores (fails_both i op id named all f outer s g others t same stands
        waiting facts NullPointer)
        (λ k thing there passes made args words vs ws passed low. select plain k thing there passes args words vs ws
        passed low (bundle.may (shape thing) passes made))
        n f.stack g.stack (drop n f.stack) (drop n g.stack) refl refl passed rest))
      where
        select : OnBoth params → (k : ℕ) (thing : HeapObject (List ℕ) MemberId) → slice_get (nheap t) k ≡ Some thing
            → within (shape thing) ≡ true → (args words vs ws : List Value) → Stacks (nheap t) params args words
            → (let h = bundle.facts in Stacks (nheap t) h.ks vs ws)
            → (let h = bundle.facts in let p = stands.point in let call = bundle.call
            in MaySelectOn by l tb f.method f.at id named within types params h.ks p.locals call.selected
            (shape thing))
            → (let call = bundle.call in Both by l tb (at_callee by (call.selected (shape_name (shape thing)))
            types.result (Obj k ∷ args) (record f { stack = vs }) outer s) (narrow.reaches (by_label l)
            (l.reached named (Some (shape thing))) true (Obj k ∷ words) (record g { next = g.at + 1; stack = ws })
            others (with_spent t)))
        select plain k thing there passes args words vs ws passed low (reached.inside h receives receiver may) =
            let facts = bundle.facts in
            let call = bundle.call in
            let p = stands.point in
            let all = Refers within ∷ params in
            call_both i op id named all f outer s g others t same stands waiting facts (λ n. Refers receives ∷ params)
            (selected_both by l tb.narrowed (MayBeCalled tb f.method f.at (Refers receives ∷ params) facts.ks p.locals)
            named within (λ n. receives) params facts.ks (g.at + 1) f outer s g others (with_spent t) plain
            call.selected types.result k thing there h receiver may args words vs ws passed low)
        select plain k thing there passes args words vs ws passed low (reached.abroad h may) =
            let facts = bundle.facts in
            let call = bundle.call in
            let p = stands.point in
            let all = Refers within ∷ params in
            replies_both i op id named all f outer s g others t same stands waiting facts (result_kinds l types.result)
            may vs ws
            (selected_abroad by l (LandsBoth i op id named all f outer s g others t same stands waiting facts) id named
            types params facts.ks p.locals (g.at + 1) f outer s g others (with_spent t) call.selected
            (same' i op id named all f outer s g others t same stands waiting facts) stands.agree.locals
            (roomy i op id named all f outer s g others t same stands waiting facts (result_kinds l types.result)
            may) k thing h args words vs ws passed low
            (lands_both i op id named all f outer s g others t same stands waiting facts answered vs ws))

    pub object_rule : (m : Method) (at : ℕ) (p : Point) (i : JInsn) (op : ℕ) (id : MemberId) (named : Callee)
        (within : Shape (List ℕ) → Bool) (types : Signature) (params : List Kind)
        → (facts : IsCallAt by l tb m at p i op id named (Refers within ∷ params))
        → (call : IsReceiverCall by l (class_of_code m) op id named within types params) → ((kind : Shape (List ℕ))
        → within kind ≡ true → IsMadeOf l kind → MaySelectOn by l tb m at id named within types params facts.ks p.locals
        call.selected kind) → Rule by l tb m at p i
    object_rule m at p i op id named within types params facts call may =
        let bundle : ObjectFacts m at p i op id named within types params = record {
          facts = facts;
          call = call;
          may = may;
        } in
        calls (λ f outer s g others t is_method is_at there same stands is_point waiting.
        object_turn i op id named within types params f outer s g others t there same stands waiting
        (subst (λ q. ObjectFacts f.method f.at q i op id named within types params) (sym is_point)
        (subst (λ k. ObjectFacts f.method k p i op id named within types params) (sym is_at)
        (subst (λ n. ObjectFacts n at p i op id named within types params) (sym is_method) bundle))))

-- ---- entries

entry_both : (by : Linked) (l : Named) (tb : Table) (on : Bool) (params : Method → List Kind) (e : Entry)
    (entries : List Entry) (noted : List Note) → ((m : Method) → MayEnter by l e.method on m → MayBegin tb (params m) m)
    → {m : Move State} {u : NTurn} → EntryAgrees by l tb.narrowed on params e entries noted m u
    → Begins by l tb noted m u
entry_both by l tb on params e entries noted may (entries_spec.begins s t m words entered same_notes same frames) =
    let h = may m entered in
    let enters = h.enters in
    let stands : Stands tb (nheap t) (frame_for_call m e.args) (narrow.frame_for_call (tb.narrowed m) words) = record {
      point = enters.point;
      is_reached = enters.is_reached;
      code = refl;
      place = enters.place;
      agree = record {
        stack = stacks_wider enters.stack frames.stack;
        locals = locals_wider enters.locals frames.locals;
      };
      owns = all_there enters.all_there;
    } in
    into (frame_for_call m e.args) [] (record s { entries = entries }) (narrow.frame_for_call (tb.narrowed m) words) []
    (record t { entries = entries }) same stands (no_frame h.short) same_notes
entry_both by l tb on params e entries noted may (entries_spec.unfit {s = s} {t = t} same) =
    unfit (report (Unfit e.number) s) (Unfit e.number) t (report_alike by l tb (Unfit e.number) s t same) (λ e. cc)
    (λ at e. cc)

pub entry_rule : (by : Linked) (l : Named) (tb : Table) (types : Signature) (within : Method → Shape (List ℕ)
    → Bool) (e : Entry) (entries : List Entry) → ActsAlike by l → IsEntry by l tb.narrowed e.method types within
    → ((m : Method) → MayEnter by l e.method e.virtual_call m
    → MayBegin tb (entry_kinds e.virtual_call l within types m) m) → (s : State) (t : NState) → StatesAgree l s t
    → Begins by l tb t.notes (named_begins by [] (e ∷ entries) s) (narrow.begins (by_label l) [] (e ∷ entries) t)
entry_rule by l tb types within e entries acts is may s t same =
    entry_both by l tb e.virtual_call (entry_kinds e.virtual_call l within types) e entries t.notes may
    (entry_begun by l tb.narrowed types within e entries acts is s t same)

-- where no method is found
pub no_entry_rule : (by : Linked) (l : Named) (tb : Table) (e : Entry) (entries : List Entry) → ActsAlike by l
    → IsNoEntry by l e.method → (s : State) (t : NState) → StatesAgree l s t
    → Begins by l tb t.notes (named_begins by [] (e ∷ entries) s) (narrow.begins (by_label l) [] (e ∷ entries) t)
no_entry_rule by l tb e entries acts none s t same =
    entry_both by l tb e.virtual_call (λ m. []) e entries t.notes (λ m entered. absurd (none_entered m entered))
    (none_begun by l tb.narrowed (λ m. []) e entries acts none s t same)
  where
    none_entered : (m : Method) → {on : Bool} → MayEnter by l e.method on m → ⊥
    none_entered m (entries_spec.is_called found) = let no : None ≡ Some m = sym none.not_called ∙ found in cc
    none_entered m (entries_spec.is_sent kind made found) =
        let no : None ≡ Some m = sym (none.not_sent kind made) ∙ found in cc
