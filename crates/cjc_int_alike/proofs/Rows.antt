-- An instruction of a method in int mode that has a row or jumps is typed, by both tables.
use Rattle.std.proofs.Common.{◌≡◌, ◌⊎◌, ◌<◌, ◌≤◌, ◌+◌, ℕ, Bool, true, false, ◌||◌, List, [], ◌∷◌, ◌++◌, length}
use Rattle.std.proofs.Common.{slice_get, filter_map, Option, Some, None, inl, inr, refl, sym, ap, subst, ◌∙◌}
use Rattle.std.proofs.Common.{arith}
use Rattle.std.specs.Prelude.{codes, nat_lt, if◌then◌else◌}
use Rattle.std.specs.List.{Contains}
use Rattle.std.proofs.lemmas.Bool.Decides.{nat_tests}
use Rattle.std.proofs.lemmas.List.Elements.{Contains-append_left, Contains-append_right}
use Rattle.cjc_bytes.proofs.Gets.{get_below, get_inside}
use Rattle.cjc_range.specs.Span.{Span}
use Rattle.cjc_code.specs.ClassFile.declared.tree.Catch.{Catch}
use Rattle.cjc_code.specs.declared.insn.JInsn.{JInsn}
use Rattle.cjc_code.specs.declared.insn.JOp.{JOp}
use Rattle.cjc_code.specs.declared.insn.JOp.TheVariants as jop
use Rattle.cjc_script.specs.Sorts.{Shape, OfClass, Sort, shape_name, shape_named}
use Rattle.cjc_world.specs.Classes.{Class}
use Rattle.cjc_types.specs.Fixpoint.Tables.{HasRow}
use Rattle.cjc_types.specs.Fixpoint.Working.Edges.{contains_head}
use Rattle.cjc_types.specs.declared.cell.Cell.{Cell}
use Rattle.cjc_types.specs.declared.state.State.{State}
use Rattle.cjc_types.specs.Search.{cells_of}
use Rattle.cjc_types.specs.Steps.{takes, goes_on, targets}
use Rattle.cjc_types.specs.Steps as typed
use Rattle.cjc_types.specs.Flow.{Body, place_at, next_place, successors, covers, caught_type}
use Rattle.cjc_types.specs.TypeLaws.Places.{IsPlaceOf}
use Rattle.cjc_types.proofs.Typed.{contains_kept}
use Rattle.cjc_intervals.specs.Frames.{RangeState, spans_of}
use Rattle.cjc_card_semantics.specs.Bytecode.Machine.{Start}
use Rattle.cjc_ncode.specs.declared.narrow.NMethod.{NMethod}
use Rattle.cjc_ncode.specs.ByLabel.{Named}
use Rattle.cjc_ncode.specs.Written.{Resolution}
use Rattle.cjc_jvm_semantics.specs.Linked.{Method, Linked}
use Rattle.cjc_jvm_semantics.specs.Effects.{place}
use Rattle.cjc_jvm_semantics.specs.Machine.{Frame, offset_of, takes as takes_it}
use Rattle.cjc_narrow_proof.specs.Selection.Calls.{NFrame}
use Rattle.cjc_narrow_proof.specs.Selection.Relation.{Kind, Refers, NMemory, AllWider}
use Rattle.cjc_narrow_proof.specs.Selection.Replies.{is_of_some}
use Rattle.cjc_narrow_proof.specs.Selection.Tables.{offset_at, class_of_code}
use Rattle.cjc_narrow_proof.specs.Tables.Analysis.{Found}
use Rattle.cjc_narrow_proof.specs.Tables.Kinds.{is_one_of, kinds}
use Rattle.cjc_narrow_proof.proofs.TablesLaws.Methods.{wider_length}
use Rattle.cjc_narrow_proof.proofs.TablesLaws.Rows.{all_wider_itself, all_wider_through, wider_append}
use Rattle.cjc_narrow_proof.proofs.TablesLaws.Told.{kinds_length, before_is, behind_is}
use Rattle.cjc_narrow_proof.proofs.TablesLaws.Typed.{IsTypedRow}
use Rattle.cjc_int_mode.specs.Room.{an_unusable_cell}
use Rattle.cjc_int_mode.specs.Written.{before, int_frame}
use Rattle.cjc_int_runs.specs.IntFrames.{IntBody}
use Rattle.cjc_int_runs.specs.Rows.{IsIntRow, IsIntJump}
use Rattle.cjc_int_runs.specs.Typed.{Knows, IsTaken, IntTyped, row_typed, jump_typed, nop_typed}
use Rattle.cjc_int_alike.specs.Method.{IsIntWhole, int_body, int_point, int_point_where}
use Rattle.cjc_int_alike.specs.Steps.{IntStep, is_nop, has_row, has_jump, MayFall}
use Rattle.cjc_int_alike.specs.Steps as step
use Rattle.cjc_int_alike.proofs.Arrivals.{Goes, is_typed, leads_on, leads_to_handler}
use Rattle.cjc_int_alike.proofs.Cells.{stack_wider, all_known}
use Rattle.cjc_int_alike.proofs.Handlers.{place_found, found_handler}

module _ (by : Linked) (l : Named) (Here : NMemory → Frame → NFrame → Type 0) (results : Method → Option Sort)
    (narrowed : Method → Start NMethod) (may_throw : Shape (List ℕ) → Bool) (w : List Class) (r : Resolution)
    (f : Found) (code : NMethod) (m : Method) (whole : IsIntWhole by l may_throw w r f m) where
  abbrev pub b : Body
  b = f.body

  abbrev pub body : IntBody
  body = int_body l r f code

  abbrev pub GoesTo : (to : ℕ) → (ks ls : List Kind) → Type 0
  GoesTo to ks ls = Goes l w r.constant f whole.sound to ks ls

  -- what both tables know at a place is known there
  pub knows : (to : ℕ) (ks ls : List Kind) → GoesTo to ks ls → Knows body to ks ls
  knows to ks ls goes =
      let t = goes.typed_there in
      let x = goes.ranged_there in
      let sized = (let s = whole.sound in let types = s.types in types.sized) in
      let lt = get_below f.types to (Some t) goes.has_types in
      let i = get_inside b.insns to (omega (arith, sized, lt)) in
      record {
        point = int_point l i.0.op t x;
        is_reached = ap (λ o. int_point_where l o (slice_get f.types to) (slice_get f.ranges to)) i.1
            ∙ ap (λ o. int_point_where l (Some i.0) o (slice_get f.ranges to)) goes.has_types
            ∙ ap (int_point_where l (Some i.0) (Some (Some t))) goes.has_ranges;
        stack = stack_wider goes.stack (all_known l 0 (cells_of t.stack) (spans_of x.stack)
            (λ k e. (let s = whole.sound in s.room) (an_unusable_cell to k t goes.has_types e)));
        locals = goes.locals;
      }

  -- ---- where it leads

  pub follows : (at : ℕ) (i : JInsn) → slice_get b.insns at ≡ Some i → goes_on i.op ≡ true
      → Contains (successors b.insns at i.op) (at + 1)
  follows at i there goes =
      let low = (let d = whole.decoded in d.next at i there goes) in
      let lt : nat_lt (at + 1) (length b.insns) ≡ true = grind (arith, nat_tests) in
      Contains-append_left (next_place (goes_on i.op) (length b.insns) at) (filter_map (place_at b.insns)
      (targets i.op)) (at + 1)
      (subst (λ on. Contains (next_place on (length b.insns) at) (at + 1)) (sym goes) (subst (λ is. Contains (if is
      then (at + 1) ∷ [] else []) (at + 1)) (sym lt) (contains_head (at + 1) [])))

  -- an offset at which an instruction stands
  named_place : (offset to : ℕ) → IsPlaceOf b.insns offset to → place m.insns offset ≡ to
  named_place offset to stands = ap (λ insns. place insns offset) (let read = whole.read in read.insns)
      ∙ place_found b.insns offset to stands.found

  pub leads : (at : ℕ) (i : JInsn) (offset : ℕ) (ks ls : List Kind) → slice_get b.insns at ≡ Some i
      → Contains (targets i.op) offset → ((to : ℕ) → Contains (successors b.insns at i.op) to → GoesTo to ks ls)
      → Knows body (place m.insns offset) ks ls
  leads at i offset ks ls there among goes =
      let p = (let d = whole.decoded in d.targets at i offset there among) in
      let to = p.0 in
      let stands = p.1 in
      let known = goes to (Contains-append_right (next_place (goes_on i.op) (length b.insns) at)
      (filter_map (place_at b.insns) (targets i.op)) to (contains_kept (place_at b.insns) (targets i.op) offset to among
      stands.found)) in
      subst (λ k. Knows body k ks ls) (sym (named_place offset to stands)) (knows to ks ls known)

  -- ---- an instruction

  module _ (at offset : ℕ) (op : JOp) (t : State) (x : RangeState)
      (there : slice_get b.insns at ≡ Some (record { at = offset; op = op })) (row : HasRow f.types at t)
      (ranged : HasRow f.ranges at x) where
    abbrev pub insn_here : JInsn
    insn_here = record { at = offset; op = op }

    abbrev pub cells : List Cell
    cells = cells_of t.stack

    abbrev pub numbers : List Span
    numbers = spans_of x.stack

    abbrev given : List Cell
    given = step.given by l r f m at op t x

    abbrev new : List Span
    new = step.new by l r f m at op t x

    abbrev behind : List Span
    behind = step.behind by l r f m at op t x

    abbrev taken : List Kind
    taken = step.taken by l r f m at op t x

    abbrev after : List Kind
    after = step.after by l r f m at op t x

    abbrev pub rest : List Kind
    rest = step.rest by l r f m at op t x

    abbrev pub locals : List Kind
    locals = step.locals by l r f m at op t x

    abbrev locals_behind : List Kind
    locals_behind = step.locals_behind by l r f m at op t x

    -- what is to be shown of it
    abbrev pub Typed : Type 0
    Typed = IntTyped by l Here results narrowed may_throw body m at (int_point l op t x) insn_here

    pub typed_here : IsTypedRow w b op t
    typed_here = is_typed l w r.constant f whole.sound at insn_here t there row

    pub stack_before : kinds l cells numbers ≡ taken ++ rest
    stack_before = let h = typed_here in before_is l (takes op) cells numbers h.there

    stack_after : length given ≡ length new → kinds l (typed.stack_behind op t.locals cells) behind ≡ after ++ rest
    stack_after same = behind_is l (takes op) given cells new numbers same

    pub room_before : length (taken ++ rest) ≤ m.max_stack
    room_before =
        let h = typed_here in
        let high = h.room in
        let long = kinds_length l 0 cells numbers in
        let parts = ap length stack_before in
        let max = (let read = whole.read in read.max_stack) in
        omega (arith, high, long, parts, max)

    pub room_after : length given ≡ length new → length (after ++ rest) ≤ m.max_stack
    room_after same =
        let h = typed_here in
        let high = h.room_behind in
        let long = kinds_length l 0 (typed.stack_behind op t.locals cells) behind in
        let parts = ap length (stack_after same) in
        let max = (let read = whole.read in read.max_stack) in
        omega (arith, high, long, parts, max)

    on : length given ≡ length new → (to : ℕ) → Contains (successors b.insns at op) to
        → GoesTo to (after ++ rest) locals_behind
    on same to is = subst (λ ks. GoesTo to ks locals_behind) (stack_after same)
        (leads_on l w r.constant f whole.sound at insn_here t x there row ranged to is)

    -- less is known of what is left
    wider_goes : {to : ℕ} {ls : List Kind} (left : List Kind) → AllWider left after → GoesTo to (after ++ rest) ls
        → GoesTo to (left ++ rest) ls
    wider_goes left wider goes = record {
      typed_there = goes.typed_there;
      has_types = goes.has_types;
      ranged_there = goes.ranged_there;
      has_ranges = goes.has_ranges;
      stack = all_wider_through (wider_append wider (all_wider_itself rest)) goes.stack;
      locals = goes.locals;
      low = goes.low;
    }

    -- what is left is known behind it
    pub knows_behind : goes_on op ≡ true → length given ≡ length new → (left : List Kind) → AllWider left after
        → Knows body (at + 1) (left ++ rest) locals_behind
    knows_behind goes same left wider = knows (at + 1) (left ++ rest) locals_behind (wider_goes left wider
        (on same (at + 1) (follows at insn_here there goes)))

    pub room_left : length given ≡ length new → (left : List Kind) → AllWider left after
        → length (left ++ rest) ≤ m.max_stack
    room_left same left wider =
        let high = room_after same in
        let sizes = wider_length (wider_append wider (all_wider_itself rest)) in
        omega (arith, high, sizes)

    -- ---- handlers

    offset_here : offset_at m at ≡ offset
    offset_here = ap (λ insns. offset_of (slice_get insns at)) (let read = whole.read in read.insns)
        ∙ ap offset_of there

    caught_within : (kind : Shape (List ℕ)) → may_throw kind ≡ true → (c : Catch) → Contains m.catches c
        → takes_it by (class_of_code m) c.class (shape_name kind) ≡ true → is_one_of l (caught_type c.class ∷ []) kind
        ≡ true
    caught_within kind may c among taken = go c.class refl taken
      where
        one : (name : List ℕ) → shape_named name ≡ Some (OfClass name) → l.is_of kind (OfClass name) ≡ true
            → is_one_of l (name ∷ []) kind ≡ true
        one name named is = ap (λ o. is_of_some l kind o || false) named ∙ ap (λ b. b || false) is

        go : (class : Option (List ℕ)) → c.class ≡ class → takes_it by (class_of_code m) class (shape_name kind) ≡ true
            → is_one_of l (caught_type class ∷ []) kind ≡ true
        go None e taken = one (codes "java/lang/Throwable") refl ((let told = whole.told in told.throwable) kind may)
        go (Some class) e taken = one class ((let told = whole.told in told.named) c class among e)
            (sym ((let told = whole.told in told.tells) kind class) ∙ taken)

    -- Each handler that takes an exception there takes it on both sides.
    pub is_taken : IsTaken by l Here results narrowed may_throw body m at (int_point l op t x) insn_here
    is_taken kind may target found =
        let h = found_handler by (class_of_code m) m.catches (offset_at m at) (shape_name kind) target found in
        let c = h.catch in
        let among : Contains b.catches c = subst (λ cs. Contains cs c) (let read = whole.read in read.catches) h.among
        in
        let covered : covers c offset ≡ true = subst (λ o. covers c o ≡ true) offset_here h.covered in
        let place_there = (let d = whole.decoded in d.handlers c among) in
        let to = place_there.0 in
        let stands = place_there.1 in
        let known = leads_to_handler l w r.constant f whole.sound at insn_here t x there row ranged c among covered to
        stands.found in
        let high = known.low in
        let one = wider_length known.stack in
        let u = known.typed_there in
        let y = known.ranged_there in
        let long = kinds_length l 0 (cells_of u.stack) (spans_of y.stack) in
        let max = (let read = whole.read in read.max_stack) in
        record {
          within = is_one_of l (caught_type c.class ∷ []);
          passes = caught_within kind may c h.among h.taken;
          knows = subst (λ o. Knows body (place m.insns o) (Refers (is_one_of l (caught_type c.class ∷ [])) ∷ [])
              locals)
              h.leads (subst (λ k. Knows body k (Refers (is_one_of l (caught_type c.class ∷ [])) ∷ []) locals)
              (sym (named_place c.target to stands)) (knows to _ _ known));
          has_room = omega (arith, high, one, long, max);
        }

    -- ---- rows and jumps

    by_row : goes_on op ≡ true → (op ≡ jop.Nop → ⊥) → length given ≡ length new → (left : List Kind)
        → AllWider left after
        → IsIntRow by l (int_frame b) r m (before op t (Some x)) op taken left locals locals_behind → Typed
    by_row goes some same left wider has = row_typed taken rest left locals_behind stack_before has some room_before
        (room_left same left wider) (knows_behind goes same left wider) is_taken

    by_jump : given ≡ [] → new ≡ [] → locals_behind ≡ locals
        → IsIntJump by l (int_frame b) r m (before op t (Some x)) op taken (targets op) → MayFall by l r f m at op t x
        → Typed
    by_jump none none' kept has falls =
        jump_typed taken rest (targets op) stack_before has room_before (λ o among. lands o among)
        (λ ls those store new' vs stack e. behind_by (falls ls those store new' vs stack e))
      where
        same : length given ≡ length new
        same = ap length none ∙ sym (ap length none')

        nothing : after ++ rest ≡ rest
        nothing = ap (λ cs. kinds l cs behind ++ rest) none

        onward : (to : ℕ) → Contains (successors b.insns at op) to → GoesTo to rest locals
        onward to is = subst (λ ks. GoesTo to ks locals) nothing (subst (λ ls. GoesTo to (after ++ rest) ls) kept
            (on same to is))

        lands : (o : ℕ) → Contains (targets op) o → Knows body (place m.insns o) rest locals
        lands o among = leads at insn_here o rest locals there among onward

        behind_by : (goes_on op ≡ true) ⊎ ((o : ℕ) × Contains (targets op) o × (place m.insns o ≡ at + 1))
            → Knows body (at + 1) rest locals
        behind_by (inl goes) = knows (at + 1) rest locals (onward (at + 1) (follows at insn_here there goes))
        behind_by (inr o) = subst (λ k. Knows body k rest locals) o.2 (lands o.0 o.1)

    by_nop : op ≡ jop.Nop → Typed
    by_nop e = nop_typed e low (subst (λ ks. Knows body (at + 1) ks locals) (sym (stack_before ∙ nothing_taken e))
        (behind_it e))
      where
        low : at < 65534
        low =
            let goes : goes_on op ≡ true = ap goes_on e in
            let few = (let d = whole.decoded in d.few) in
            let next = (let d = whole.decoded in d.next at insn_here there goes) in
            omega (arith, few, next)

        nothing_taken : op ≡ jop.Nop → taken ++ rest ≡ after ++ rest
        nothing_taken e = ap (λ o. step.taken by l r f m at o t x ++ step.rest by l r f m at o t x) e
            ∙ sym (ap (λ o. step.after by l r f m at o t x ++ step.rest by l r f m at o t x) e)

        behind_it : op ≡ jop.Nop → Knows body (at + 1) (after ++ rest) locals
        behind_it e =
            let same : length given ≡ length new = ap (λ o. length (step.given by l r f m at o t x)) e
            ∙ sym (ap (λ o. length (step.new by l r f m at o t x)) e) in
            let kept : locals_behind ≡ locals = ap (λ o. step.locals_behind by l r f m at o t x) e in
            subst (λ ls. Knows body (at + 1) (after ++ rest) ls) kept (knows_behind (ap goes_on e) same after
            (all_wider_itself after))

    pub typed_by_step : IntStep by l r f m at op t x → Typed
    typed_by_step (is_nop e) = by_nop e
    typed_by_step (has_row goes some same left wider has) = by_row goes some same left wider has
    typed_by_step (has_jump none none' kept has falls) = by_jump none none' kept has falls
