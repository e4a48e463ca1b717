-- The code of a method in int mode, of the instructions that its least type table reaches, is whole.
use Rattle.std.proofs.Common.{◌≡◌, ℕ, zero, suc, ◌+◌, ◌<◌, ◌≤◌, refl, sym, ap, subst, ◌∙◌, arith, Bool, true, false}
use Rattle.std.proofs.Common.{List, [], ◌∷◌, length}
use Rattle.std.specs.Prelude.{Option, Some, None, get_or, nat_le, nat_lt, slice_get, ◌&&◌, if◌then◌else◌}
use Rattle.std.specs.List.{Contains}
use Rattle.std.proofs.lemmas.Bool.{ltb-true, lt-ltb, le-leb}
use Rattle.std.proofs.lemmas.List.Elements.{Contains-append_left, Contains-append_right}
use Rattle.std.proofs.lemmas.Option.{slice_get_within}
use Rattle.cjc_ncode.proofs.BytesGets.{contained, get_inside}
use Rattle.cjc_int_mode.specs.Fixpoint.Tables.{HasRow}
use Rattle.cjc_int_mode.specs.Fixpoint.Working.Edges.{contains_head, contains_tail}
use Rattle.cjc_int_mode.specs.ClassFile.Code.{CodeTree}
use Rattle.cjc_int_mode.specs.ClassFile.declared.tree.Catch.{Catch}
use Rattle.cjc_int_mode.specs.ClassFile.declared.tree.ClassTree.{ClassTree}
use Rattle.cjc_int_mode.specs.ClassFile.declared.tree.MethodTree.{MethodTree}
use Rattle.cjc_int_mode.specs.Bytecode.declared.insn.JInsn.{JInsn}
use Rattle.cjc_int_mode.specs.Bytecode.declared.method_code.MethodCode.{MethodCode}
use Rattle.cjc_int_mode.specs.World.Files.{Files}
use Rattle.cjc_narrow.specs.Types.declared.state.State.{State}
use Rattle.cjc_narrow.specs.Types.Flow.{Body, body_of, covers, next_place, place_at, successors}
use Rattle.cjc_narrow.specs.Types.Steps.{goes_on, targets}
use Rattle.cjc_narrow.specs.Types.Tables.{IsLeastTable, IsMethodOf}
use Rattle.cjc_narrow.specs.Types.TypeLaws.Closed.{IsClosedTable, Reaches}
use Rattle.cjc_narrow.specs.Types.TypeLaws.Places.{HasPlace}
use Rattle.cjc_narrow.proofs.TypesAscending.{insns_ascend}
use Rattle.cjc_narrow.proofs.TypesFew.{insns_at_most}
use Rattle.cjc_narrow.proofs.TypesTyped.{contains_kept}
use Rattle.cjc_narrow.proofs.TypesLowered.{least_closed}
use Rattle.cjc_narrow.proofs.TypesStanding.{handler_placed, next_there, target_placed}
use Rattle.cjc_ncode.specs.declared.narrow.NMethod.{NMethod}
use Rattle.cjc_ncode.specs.Written.{Resolution, catch_at, catches_at}
use Rattle.cjc_ncode.specs.IntCode.IntCode.{Frame, Reached, int_method, place_in, size}
use Rattle.cjc_int_proof.specs.Layout.Handlers.{AllLie}
use Rattle.cjc_int_proof.specs.Layout.Layouts.{IsWhole}
use Rattle.cjc_int_proof.specs.Labels.{LabelsStand}
use Rattle.cjc_int_proof.proofs.Counts.{below, between, goes_on_unwritten, order, within}
use Rattle.cjc_int_proof.proofs.Leads.{all_labels_stand}
use Rattle.cjc_int_proof.proofs.Sizes.{no_wider}
use Rattle.cjc_int_mode.specs.Intervals.Frames.{RangeState}
use Rattle.cjc_int_mode.specs.Written.{before, int_frame, places_from, reached_from, written_in_int_mode}

-- an instruction that has a row is reached, and a reached one has a row
module _ (ranges : List (Option RangeState)) where
  reached_at : (place : ℕ) (insns : List JInsn) (types : List (Option State)) (at : ℕ) (i : JInsn) (x : State)
      → slice_get insns at ≡ Some i → HasRow types at x → (k : ℕ) × (j : Reached)
      × (slice_get (reached_from ranges place insns types) k ≡ Some j) × (j.insn ≡ i)
  reached_at place [] types at i x e row = absurd cc
  reached_at place (y ∷ insns) [] at i x e row = absurd cc
  reached_at place (y ∷ insns) (None ∷ types) zero i x e row = absurd cc
  reached_at place (y ∷ insns) (Some t ∷ types) zero i x e row =
      let same : y ≡ i = cc in
      (0, record { insn = y; before = before y.op t (get_or ranges place None) }, refl, same)
  reached_at place (y ∷ insns) (None ∷ types) (suc at) i x e row = reached_at (place + 1) insns types at i x e row
  reached_at place (y ∷ insns) (Some t ∷ types) (suc at) i x e row =
      let h = reached_at (place + 1) insns types at i x e row in (suc h.0, h.1, h.2, h.3)

  reached_of : (place : ℕ) (insns : List JInsn) (types : List (Option State)) (k : ℕ) (j : Reached)
      → slice_get (reached_from ranges place insns types) k ≡ Some j → (at : ℕ) × (x : State)
      × (slice_get insns at ≡ Some j.insn) × HasRow types at x
  reached_of place [] types k j e = absurd cc
  reached_of place (y ∷ insns) [] k j e = absurd cc
  reached_of place (y ∷ insns) (None ∷ types) k j e =
      let h = reached_of (place + 1) insns types k j e in (suc h.0, h.1, h.2, h.3)
  reached_of place (y ∷ insns) (Some t ∷ types) zero j e =
      let first : Reached = record { insn = y; before = before y.op t (get_or ranges place None) } in
      let same : first ≡ j = cc in
      (0, t, ap (λ (n : Reached). Some n.insn) same, refl)
  reached_of place (y ∷ insns) (Some t ∷ types) (suc k) j e =
      let h = reached_of (place + 1) insns types k j e in (suc h.0, h.1, h.2, h.3)

module _ (files : Files) (code : MethodCode) (class : ClassTree) (method : MethodTree) (tree : CodeTree)
    (is : IsMethodOf files code class method tree)
    (rows : List (Option State)) (least : IsLeastTable (body_of class method tree code.insns) rows)
    (ranges : List (Option RangeState)) (r : Resolution) where
  abbrev b : Body
  b = body_of class method tree code.insns

  closed : IsClosedTable b rows
  closed = least_closed b rows least (insns_at_most files code class method tree is)

  abbrev f : Frame
  f = int_frame b

  abbrev kept : List Reached
  kept = reached_from ranges 0 code.insns rows

  abbrev m : NMethod
  m = int_method f r tree kept (places_from 0 code.insns rows)

  abbrev place : ℕ → ℕ
  place offset = place_in f r kept offset

  -- an instruction that goes on leads to the next
  next_on : (at : ℕ) (i : JInsn) → goes_on i.op ≡ true → at + 1 < length code.insns
      → Contains (successors code.insns at i.op) (at + 1)
  next_on at i goes lt =
      Contains-append_left _ _ (at + 1) (subst (λ b. Contains (next_place b (length code.insns) at) (at + 1)) (sym goes)
      (subst (λ b. Contains (if b then (at + 1) ∷ [] else []) (at + 1)) (sym (lt-ltb (at + 1) (length code.insns) lt))
      (contains_head (at + 1) [])))

  -- something is written at a reached instruction or behind it
  reached_below : (n at : ℕ) (i : JInsn) (x : State) → length code.insns ≤ at + n → slice_get code.insns at ≡ Some i
      → HasRow rows at x → place i.at < length m.insns
  reached_below zero at i x le e row = let lt = slice_get_within code.insns at i e in absurd (omega (arith, le, lt))
  reached_below (suc n) at i x le e row = go (size f r j) refl (λ goes.
      (let lt = next_there files code class method tree is at i e goes in
      let next = get_inside code.insns (at + 1) lt in
      let on = closed.next at x i row e (at + 1) (next_on at i goes lt) in
      let later = reached_below n (at + 1) next.0 on.row (omega (arith, le)) next.1 on.is_row in
      let up = insns_ascend files code class method tree is at (at + 1) i next.0 e next.1 (omega arith) in
      let in_order = order f r kept i.at next.0.at (omega (arith, up)) in
      omega (arith, later, in_order)))
    where
      j : Reached
      j = let k = reached_at ranges 0 code.insns rows at i x e row in k.1

      is_insn : j.insn ≡ i
      is_insn = let k = reached_at ranges 0 code.insns rows at i x e row in k.3

      here : place i.at + size f r j ≤ length m.insns
      here =
          let k = reached_at ranges 0 code.insns rows at i x e row in
          let same : (let n = j.insn in n.at) ≡ i.at = ap (λ (n : JInsn). n.at) is_insn in
          below f r tree kept (places_from 0 code.insns rows) i.at k.0 j k.2 (omega (arith, same))

      go : (s : ℕ) → size f r j ≡ s → (goes_on i.op ≡ true → place i.at < length m.insns) → place i.at < length m.insns
      go (suc s) some on = let le = here in omega (arith, le, some)
      go zero none on = on (sym (ap (λ (n : JInsn). goes_on n.op) is_insn) ∙ goes_on_unwritten f r j.before
          (let n = j.insn in n.op) none)

  -- so it is at each offset at which a reached instruction stands
  offset_below : (offset to : ℕ) (x : State) → HasPlace code.insns offset → place_at code.insns offset ≡ Some to
      → Reaches b rows to x → place offset < length m.insns
  offset_below offset to x there found on =
      let p = there.1 in
      let same : there.0 ≡ to = same_place there.0 to (sym p.found ∙ found) in
      let row : HasRow rows there.0 on.row = subst (λ k. HasRow rows k on.row) (sym same) on.is_row in
      let later = reached_below (length code.insns) there.0 p.insn on.row (omega arith) p.is_insn row in
      subst (λ o. place o < length m.insns) p.stands later
    where
      same_place : (j k : ℕ) → Some j ≡ Some k → j ≡ k
      same_place j k e = cc

  labels : LabelsStand f r kept (length m.insns)
  labels k n o i e at =
      let from = reached_of ranges 0 code.insns rows k i e in
      let j = i.insn in
      let there = contained (targets j.op) n o at in
      let lands = target_placed files code class method tree is from.0 j o from.2 there in
      let found = lands.1.found in
      let on = closed.next from.0 from.1 j from.3 from.2 lands.0
      (Contains-append_right _ _ lands.0 (contains_kept (place_at code.insns) (targets j.op) o lands.0 there found)) in
      offset_below o lands.0 _ lands found on

  -- ---- handlers

  handler_below : (c : Catch) → Contains tree.catches c → place c.start < place c.end → place c.target < length m.insns
  handler_below c there lt =
      let inside = between f r kept c.start c.end lt in
      let from = reached_of ranges 0 code.insns rows inside.0 inside.1 inside.2 in
      let i = inside.1.insn in
      let lands = handler_placed files code class method tree is c there in
      let found = lands.1.found in
      let covered : covers c i.at ≡ true = both (nat_le c.start i.at) (nat_lt i.at c.end)
      (le-leb c.start i.at inside.3) (lt-ltb i.at c.end inside.4) in
      let on = closed.handled from.0 from.1 i from.3 from.2 c there covered lands.0 found in
      offset_below c.target lands.0 _ lands found on
    where
      both : (a b : Bool) → a ≡ true → b ≡ true → (a && b) ≡ true
      both true true e f = refl
      both true false e f = f
      both false b e f = e

  handlers_lie : (cs : List Catch) → ((c : Catch) → Contains cs c → Contains tree.catches c)
      → AllLie (length m.insns) (catches_at (place_in f r kept) cs)
  handlers_lie [] h = tt
  handlers_lie (c ∷ cs) h = go (nat_lt (place c.start) (place c.end)) refl
      (handlers_lie cs (λ d there. h d (contains_tail c cs d there)))
    where
      go : (b : Bool) → nat_lt (place c.start) (place c.end) ≡ b
          → AllLie (length m.insns) (catches_at (place_in f r kept) cs)
          → AllLie (length m.insns) (if b then catch_at (place_in f r kept) c ∷ catches_at (place_in f r kept) cs
          else catches_at (place_in f r kept) cs)
      go false e rest = rest
      go true e rest =
          let lt = ltb-true (place c.start) (place c.end) e in
          let end = within f r tree kept (places_from 0 code.insns rows) c.end in
          ((omega (arith, lt, end), end, handler_below c (h c (contains_head c cs)) lt), rest)

  pub int_code_whole : IsWhole (written_in_int_mode r tree b rows ranges)
  int_code_whole = record {
    leads = all_labels_stand f r tree kept (places_from 0 code.insns rows) labels;
    lies = handlers_lie tree.catches (λ c there. there);
    size = no_wider f r tree kept (places_from 0 code.insns rows);
  }
