-- Whole runs of a package, each method of which may be in any mode, agree where each instruction by name is at most so
-- many by label.
use Rattle.std.proofs.Common.{◌≡◌, ◌≢◌, ℕ, suc, ◌+◌, ◌≤◌, refl, sym, ap, subst, ◌∙◌, arith, Bool, List, []}
use Rattle.std.proofs.Common.{◌∷◌}
use Rattle.std.specs.Prelude.{Option, Some, slice_get}
use Rattle.cjc_int_proof.specs.Bytecode.declared.insn.JInsn.{JInsn}
use Rattle.cjc_script.specs.declared.script.Entry.{Entry}
use Rattle.cjc_script.specs.declared.script.Script.{Script}
use Rattle.cjc_script.specs.declared.report.Outcome.TheVariants.{Done, Stuck}
use Rattle.cjc_script.specs.Sorts.{Shape, Sort}
use Rattle.cjc_card_semantics.specs.Bytecode.Machine.{Start, Next}
use Rattle.cjc_card_semantics.specs.Bytecode.Machine as narrow
use Rattle.cjc_card_semantics.specs.Bytecode.Effects as effects
use Rattle.cjc_card_semantics.specs.Bytecode.Runs.{Move, On, Alike, led, device, run, last, Leads, Steps, silent, ends}
use Rattle.cjc_card_semantics.specs.Bytecode.Runs.{Simulates, Agree}
use Rattle.cjc_card_semantics.specs.Bytecode.Runs as runs
use Rattle.cjc_card_semantics.proofs.BytecodeLaws.Follows.{from_there, agree, agree_through}
use Rattle.cjc_card_semantics.proofs.BytecodeLaws.Longer.{machine_lawful, run_same}
use Rattle.cjc_ncode.specs.declared.narrow.NMethod.{NMethod}
use Rattle.cjc_ncode.specs.ByLabel.{Named, Callee, by_label}
use Rattle.cjc_ncode.specs.ByLabel as labels
use Rattle.cjc_jvm_semantics.specs.Linked.{Method, Linked}
use Rattle.cjc_jvm_semantics.specs.Effects.{NullPointer}
use Rattle.cjc_jvm_semantics.specs.Effects as by_name
use Rattle.cjc_jvm_semantics.specs.Machine.{Frame, State, after_effect, spend, begins, step, and_then, idle}
use Rattle.cjc_jvm_semantics.specs.Machine as named
use Rattle.cjc_int_proof.specs.Walks.{Out, walk, at_spot, turn_out}
use Rattle.cjc_int_proof.proofs.Walking.{walks_on, walks_out, agree_more}
use Rattle.cjc_narrow_proof.specs.Selection.Calls.{NFrame, NState, NTurn}
use Rattle.cjc_narrow_proof.specs.Selection.Relation.{NMemory}
use Rattle.cjc_narrow_proof.specs.Selection.Replies.{StatesAgree}
use Rattle.cjc_narrow_proof.specs.Selection.Rows.{NEffect, narrow_fault}
use Rattle.cjc_narrow_proof.specs.Selection.Throws.{nheap}
use Rattle.cjc_narrow_proof.proofs.SelectionLaws.Paths.{named_step}
use Rattle.cjc_int_runs.specs.Modes.{frame_at, Waiting, none_waits, Couple, between, inside, left, right, measure, Both}
use Rattle.cjc_int_runs.specs.Modes.{onward, over, Does, goes_on, stays, raises, throws, returns, calls, Begins, enters}
use Rattle.cjc_int_runs.specs.Modes.{is_over, IsFine}
use Rattle.cjc_int_runs.specs.Steps.{NSpot, spot}
use Rattle.cjc_int_runs.proofs.Called.{called_both}
use Rattle.cjc_int_runs.proofs.Outward.{both_spent, waiting_kept, tossed_both, failed_both, left_both, report_alike}

module _ (by : Linked) (l : Named) (Here : NMemory → Frame → NFrame → Type 0) (results : Method → Option Sort)
    (narrowed : Method → Start NMethod) (may_throw : Shape (List ℕ) → Bool) (most : ℕ) where
  abbrev Pair : Type 0
  Pair = Couple by l Here results narrowed may_throw

  abbrev Meets : Move State → NTurn → Type 0
  Meets = Both by l Here results narrowed may_throw

  abbrev left_of : Pair → State
  left_of w = left by l Here results narrowed may_throw w

  abbrev right_of : Pair → NState
  right_of w = right by l Here results narrowed may_throw w

  abbrev measure_of : Pair → ℕ
  measure_of w = measure by l Here results narrowed may_throw w

  abbrev Follows : Pair → Type 0
  Follows w = Steps (named.device by) (device (by_label l)) left_of right_of most measure_of w

  -- turns of which the last leads where one instruction by name does
  ended_by : (w : Pair) {m : Move State} {u : NTurn} (j : ℕ) → named.move by (left_of w) ≡ m
      → Leads (device (by_label l)) j (right_of w) (led (by_label l) u) → j ≤ most → Meets m u → Follows w
  ended_by w j e leads few (onward v) = runs.onward v j e leads few
  ended_by w j e leads few (over r o t h running stuck) = ends r (narrow.report (by_label l) o t) j e leads few h
      running
      stuck

  module _ (some : 1 ≤ most) (fine : IsFine by l Here results narrowed may_throw most) where
    module _ (f : Frame) (outer : List Frame) (s : State) (g : NFrame) (others : List NFrame) (t : NState)
        (same : StatesAgree l s t) (here : Here t.memory f g) (waiting : Waiting by l Here results narrowed may_throw
        (nheap t) (results f.method) outer others) (i : JInsn)
        (there : slice_get (let m = f.method in m.insns) f.at ≡ Some i) where
      abbrev w : Pair
      w = inside f outer s g others t same here waiting

      abbrev s0 : State
      s0 = record s { frames = f ∷ outer }

      abbrev from : NSpot
      from = spot g.at g.stack g.locals t.memory

      -- the state after so many instructions, in a frame at a spot
      abbrev after : NSpot → (spent : ℕ) → NState
      after to spent = record t { frames = frame_at g to ∷ others; spent = t.spent + spent }

      begun : record t { frames = g ∷ others } ≡ at_spot (by_label l) g.code g others t from 0
      begun = ap (λ k. record t { frames = g ∷ others; spent = k }) (let e : t.spent ≡ t.spent + 0 = omega arith in e)

      moved : (e : by_name.Effect) → by_name.effect by f.method f.at f.locals s.store i.op f.stack ≡ e
          → named.move by (left_of w) ≡ spend by (after_effect by e f outer s0)
      moved e is = named_step by f outer s0 i there ∙ ap (λ e. spend by (after_effect by e f outer s0)) is

      same_at : (to : NSpot) (spent : ℕ) → StatesAgree l s0 (after to spent)
      same_at to spent = record {
        stores = same.stores;
        entries = same.entries;
        answers = same.answers;
        notes = same.notes;
      }

      -- an instruction that leads out of the frame
      leads_out : (e : by_name.Effect) (asked : NEffect) (n next : ℕ) (to : NSpot)
          → by_name.effect by f.method f.at f.locals s.store i.op f.stack ≡ e
          → walk (by_label l) g.code n from ≡ Out to next asked → n ≤ most → to.memory ≡ t.memory
          → ((k : ℕ) → Meets (after_effect by e f outer s0) (narrow.made (by_label l) asked next (frame_at g to) others
          (after to (k + 1)))) → Follows w
      leads_out e asked n next to is walked few kept both =
          let out = walks_out (by_label l) g.code g others t n 0 from to next asked walked in
          let less = out.1 in
          let k = 0 + out.0 in
          let state : after to (k + 1) ≡ at_spot (by_label l) g.code g others t to (k + 1) =
          ap (λ mem. record t { frames = frame_at g to ∷ others; memory = mem; spent = t.spent + (k + 1) }) (sym kept)
          in
          ended_by w (suc out.0) (moved e is)
          (subst (λ u. Leads (device (by_label l)) (suc out.0) u (led (by_label l) (turn_out (by_label l) g.code g
          others t
          to next k asked))) (sym begun) out.2) (omega (arith, less, few))
          (both_spent by l Here results narrowed may_throw (t.spent + k)
          (subst (λ u. Meets (after_effect by e f outer s0) (narrow.made (by_label l) asked next (frame_at g to) others
          u))
          state (both k)))

      by_does : Does by l Here results narrowed may_throw most t.memory s.store f g i → Follows w
      unfolding by_label
      by_does (goes_on at vs locals store n to is walked few stores keeps next_here) =
          runs.onward (inside (record f { at = at; stack = vs; locals = locals }) outer (record s {
            store = store;
            spent = s.spent + 1;
          }) (frame_at g to) others (record t { memory = to.memory; spent = t.spent + (0 + suc n) })
          (record { stores = stores; entries = same.entries; answers = same.answers; notes = same.notes }) next_here
          (waiting_kept by l Here results narrowed may_throw keeps waiting)) (suc n)
          (moved (by_name.Go at vs locals store) is)
          (subst (λ (u : NState). Leads (device (by_label l)) (suc n) u (On (at_spot (by_label l) g.code g others t
          to (0
          + suc n)))) (sym begun) (walks_on (by_label l) g.code g others t n 0 from to walked)) few
      by_does (stays vs locals is low next_here) =
          silent (inside (record f { at = f.at + 1; stack = vs; locals = locals }) outer (record s {
            spent = s.spent + 1;
          }) g others t (record {
            stores = same.stores;
            entries = same.entries;
            answers = same.answers;
            notes = same.notes;
          }) next_here waiting) (moved (by_name.Go (f.at + 1) vs locals s.store) is) refl
          (record { notes = refl; outcome = refl; heap = λ ended. refl; statics = λ ended. refl }) (omega (arith, low))
      by_does (raises fault n next to is walked few kept catches) =
          leads_out (by_name.Raise fault) (effects.Raise (narrow_fault fault)) n next to is walked few kept (λ k.
          failed_both by l Here results narrowed may_throw f outer s0 (frame_at g to) others (after to (k + 1))
          (same_at to (k + 1)) catches waiting fault (fine.raised fault) (fine.may_raise fault))
      by_does (throws object thing n next to is walked few kept held may catches) =
          leads_out (by_name.Toss object) (effects.Toss object) n next to is walked few kept (λ k.
          tossed_both by l Here results narrowed may_throw f outer s0 (frame_at g to) others (after to (k + 1))
          (same_at to (k + 1)) catches waiting object thing held may)
      by_does (returns value words n next to is walked few kept r) =
          leads_out (by_name.Leave value) (effects.Leave words) n next to is walked few kept (λ k.
          left_both by l Here results narrowed may_throw f s0 (frame_at g to) (after to (k + 1)) next
          (same_at to (k + 1)) (results f.method) outer others waiting value words r)
      by_does (calls op id callee n next to is walked few kept alike) =
          leads_out (by_name.Invoke op id) (effects.Invoke callee) n next to is walked few kept (λ k.
          called_both by l Here results narrowed may_throw fine.acts fine.throws fine.may_answer
          (fine.raised NullPointer) (fine.may_raise NullPointer) f outer s0 (record (frame_at g to) { next = next })
          others
          (after to (k + 1)) (same_at to (k + 1)) waiting op id callee alike)

    at_instruction : (f : Frame) (outer : List Frame) (s : State) (g : NFrame) (others : List NFrame) (t : NState)
        (same : StatesAgree l s t) (here : Here t.memory f g) (waiting : Waiting by l Here results narrowed may_throw
        (nheap t) (results f.method) outer others) → Follows (inside f outer s g others t same here waiting)
    at_instruction f outer s g others t same here waiting =
        let d = fine.does t.memory s.store f g here same.stores in
        by_does f outer s g others t same here waiting d.0 d.1.0 d.1.1

    -- ---- between entries

    entered : (s : State) (t : NState) (same : StatesAgree l s t) (m : Move State) (u : NTurn)
        → Begins by l Here results narrowed may_throw t.notes m u → (e : Entry) (entries : List Entry)
        → t.entries ≡ e ∷ entries
        → begins by [] s.entries (record s { frames = [] }) ≡ m
        → narrow.begins (by_label l) [] t.entries (record t { frames = [] }) ≡ u → Follows (between s t same)
    entered s t same _ _ (enters f s' g t' same_there here noted) e entries is em eu =
        from_there (named.device by) (device (by_label l)) left_of right_of most measure_of (between s t same)
        (inside f [] s' g [] t' same_there here none_waits)
        (ap (λ m. and_then by m (λ v. step by v.frames v)) em)
        (ap (λ u. led (by_label l) (narrow.and_then (by_label l) u (λ v. narrow.step (by_label l) v.frames v))) eu)
        (record {
          notes = sym noted;
          outcome = ap (narrow.idle (by_label l) []) is;
          heap = λ ended. absurd (ended refl);
          statics = λ ended. absurd (ended refl);
        })
        (omega arith) (at_instruction f [] s' g [] t' same_there here none_waits)
    entered s t same _ _ (is_over r o t' h running stuck) e entries is em eu =
        ended_by (between s t same) 1 (ap (λ m. and_then by m (λ v. step by v.frames v)) em)
        (last (ap (λ u. led (by_label l) (narrow.and_then (by_label l) u (λ v. narrow.step (by_label l) v.frames v)))
        eu)) some (over r o t' h running stuck)

    at_entry : (s : State) (t : NState) (same : StatesAgree l s t) (entries : List Entry) → t.entries ≡ entries
        → Follows (between s t same)
    at_entry s t same [] is =
        let s1 = record s { frames = [] } in
        let t1 = record t { frames = [] } in
        ended_by (between s t same) 1
        (ap (λ es. and_then by (begins by [] es s1) (λ v. step by v.frames v)) (same.entries ∙ is))
        (last (ap (λ es. led (by_label l) (narrow.and_then (by_label l) (narrow.begins (by_label l) [] es t1)
        (λ v. narrow.step (by_label l) v.frames v))) is)) some
        (over (named.report Done s1) Done t1 (report_alike by l Here results narrowed may_throw Done s1 t1
        (record { stores = same.stores; entries = same.entries; answers = same.answers; notes = same.notes })) (λ e. cc)
        (λ at e. cc))
    at_entry s t same (e ∷ entries) is =
        let s1 = record s { frames = [] } in
        let t1 = record t { frames = [] } in
        entered s t same (begins by [] (e ∷ entries) s1) (narrow.begins (by_label l) [] (e ∷ entries) t1)
        (fine.entries e entries s1 t1 (record {
          stores = same.stores;
          entries = same.entries;
          answers = same.answers;
          notes = same.notes;
        })) e entries is
        (ap (λ es. begins by [] es s1) (same.entries ∙ is)) (ap (λ es. narrow.begins (by_label l) [] es t1) is)

    -- ---- whole runs

    steps : (w : Pair) → Follows w
    steps (between s t same) = at_entry s t same t.entries refl
    steps (inside f outer s g others t same here waiting) = at_instruction f outer s g others t same here waiting

    idle_same : (entries : List Entry) → narrow.idle (by_label l) [] entries ≡ idle by [] entries
    idle_same [] = refl
    idle_same (e ∷ entries) = refl

    rests : (w : Pair) → Alike ((device (by_label l)).rest (right_of w)) ((named.device by).rest (left_of w))
    unfolding by_label
    rests (between s t same) =
        let stores = same.stores in
        record {
          notes = sym same.notes;
          outcome = idle_same t.entries ∙ ap (idle by []) (sym same.entries);
          heap = λ ended. sym stores.heap;
          statics = λ ended. sym stores.statics;
        }
    rests (inside f outer s g others t same here waiting) =
        let stores = same.stores in
        record {
          notes = sym same.notes;
          outcome = refl;
          heap = λ ended. sym stores.heap;
          statics = λ ended. sym stores.statics;
        }

    not_stuck : (entries : List Entry) (at : ℕ) → idle by [] entries ≢ Stuck at
    not_stuck [] at = λ e. cc
    not_stuck (e ∷ entries) at = λ e. cc

    free : (w : Pair) (at : ℕ) → ((named.device by).rest (left_of w)).outcome ≢ Stuck at
    free (between s t same) at = not_stuck s.entries at
    free (inside f outer s g others t same here waiting) at = λ e. cc

    small : (w : Pair) → measure_of w ≤ 65534
    small (between s t same) = omega arith
    small (inside f outer s g others t same here waiting) = omega arith

    simulates : Simulates (named.device by) (device (by_label l)) left_of right_of most measure_of
    simulates = record { steps = steps; rests = rests; free = free; small = small }

pub modes_agree : (by : Linked) (l : Named) (Here : NMemory → Frame → NFrame → Type 0) (results : Method → Option Sort)
    (narrowed : Method → Start NMethod) (may_throw : Shape (List ℕ) → Bool) (most bound : ℕ) → 1 ≤ most → most ≤ bound
    → IsFine by l Here results narrowed may_throw most → (script : Script)
    → Agree bound (λ n. named.run by script n) (λ n. labels.run l script n)
modes_agree by l Here results narrowed may_throw most bound some le fine script =
    let first_state = narrow.start l.memory script in
    let w = between (named.start by script) first_state (record {
      stores = fine.starts;
      entries = refl;
      answers = refl;
      notes = refl;
    }) in
    agree_more most bound _ _ le
    (agree_through (agree (named.device by) (device (by_label l)) (left_of by l Here results narrowed may_throw most)
    (right_of by l Here results narrowed may_throw most) most (measure_of by l Here results narrowed may_throw most)
    (simulates by l Here results narrowed may_throw most some fine) (machine_lawful (by_label l)) w)
    (λ n free. sym (run_same (by_label l) n first_state)))
