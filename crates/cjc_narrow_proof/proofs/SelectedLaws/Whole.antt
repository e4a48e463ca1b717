-- The narrow code of a method, of the instructions that its least type table reaches, is whole.
use Rattle.std.proofs.Common.{◌≡◌, ℕ, zero, suc, ◌+◌, ◌<◌, ◌≤◌, refl, sym, ap, subst, ◌∙◌, arith, Bool, true, false}
use Rattle.std.proofs.Common.{List}
use Rattle.std.proofs.Common.{[], ◌∷◌, length}
use Rattle.std.specs.Prelude.{Option, Some, nat_le, nat_lt, slice_get, ◌&&◌, if◌then◌else◌}
use Rattle.std.specs.List.{Contains}
use Rattle.std.proofs.lemmas.Bool.{ltb-true, lt-ltb, le-leb}
use Rattle.std.proofs.lemmas.List.Elements.{Contains-append_left, Contains-append_right}
use Rattle.std.proofs.lemmas.Option.{slice_get_within}
use Rattle.cjc_types.specs.Fixpoint.Tables.{HasRow}
use Rattle.cjc_types.specs.Fixpoint.Working.Edges.{contains_head, contains_tail}
use Rattle.cjc_bytes.specs.declared.fault.MemberId.{MemberId}
use Rattle.cjc_bytes.proofs.Gets.{get_inside}
use Rattle.cjc_code.specs.ClassFile.Code.{CodeTree}
use Rattle.cjc_code.specs.ClassFile.declared.tree.Catch.{Catch}
use Rattle.cjc_code.specs.ClassFile.declared.tree.ClassTree.{ClassTree}
use Rattle.cjc_code.specs.ClassFile.declared.tree.MethodTree.{MethodTree}
use Rattle.cjc_code.specs.declared.insn.JInsn.{JInsn}
use Rattle.cjc_code.specs.declared.method_code.MethodCode.{MethodCode}
use Rattle.cjc_world.specs.Files.{Files}
use Rattle.cjc_ncode.specs.Written.{Resolution, catch_at, catches_at, narrow_code, narrow_method, place_in, reached}
use Rattle.cjc_narrow.specs.Rows.Resolved.{argument_words, resolution}
use Rattle.cjc_narrow.specs.Rows.Selected.{selected_code}
use Rattle.cjc_narrow.specs.Written.Rows.{by_rows_there, has_rows, has_rows_by, rows_by}
use Rattle.cjc_narrow.specs.Pairs.Roles.{with_pairs}
use Rattle.cjc_types.specs.declared.state.State.{State}
use Rattle.cjc_types.specs.Flow.{body_of, covers, next_place, place_at, successors}
use Rattle.cjc_types.specs.Steps.{goes_on, targets}
use Rattle.cjc_types.specs.Tables.{IsLeastTable, IsMethodOf}
use Rattle.cjc_types.proofs.Ascending.{insns_ascend}
use Rattle.cjc_types.proofs.Typed.{contains_kept}
use Rattle.cjc_types.specs.TypeLaws.Closed.{IsClosedTable, Reaches}
use Rattle.cjc_types.specs.TypeLaws.Places.{HasPlace}
use Rattle.cjc_types.proofs.TypeLaws.Lowered.{least_closed}
use Rattle.cjc_types.proofs.TypeLaws.Standing.{handler_placed, next_there, target_placed}
use Rattle.cjc_emit.specs.LowerLayout.Handlers.{AllLie}
use Rattle.cjc_emit.specs.LowerLayout.Layouts.{IsWhole}
use Rattle.cjc_emit.specs.LowerLayout.Sizes.{AllLead}
use Rattle.cjc_narrow_proof.proofs.SelectedLaws.Cuts.{few, stack_opcode}
use Rattle.cjc_narrow_proof.proofs.SelectedLaws.Places.{all_sizes, between, place_below, place_low, place_up}
use Rattle.cjc_narrow_proof.proofs.SelectedLaws.Places.{reached_at, reached_from, size, sizes}
use Rattle.cjc_narrow_proof.proofs.SelectedLaws.Leads.{code_leads, role_goes_on}
use Rattle.cjc_narrow_proof.proofs.SelectedLaws.Sizes.{code_low, widest_is}

module _ (files : Files) (code : MethodCode) (class : ClassTree) (method : MethodTree) (tree : CodeTree)
    (is : IsMethodOf files code class method tree)
    (rows : List (Option State)) (least : IsLeastTable (body_of class method tree code.insns) rows) where
  pub closed : IsClosedTable (body_of class method tree code.insns) rows
  closed = least_closed (body_of class method tree code.insns) rows least (few files code class method tree is)

  -- an instruction that goes on leads to the next
  pub next_on : (at : ℕ) (i : JInsn) → goes_on i.op ≡ true → at + 1 < length code.insns
      → Contains (successors code.insns at i.op) (at + 1)
  next_on at i goes lt =
      Contains-append_left _ _ (at + 1) (subst (λ b. Contains (next_place b (length code.insns) at) (at + 1)) (sym goes)
      (subst (λ b. Contains (if b then (at + 1) ∷ [] else []) (at + 1)) (sym (lt-ltb (at + 1) (length code.insns) lt))
      (contains_head (at + 1) [])))

  module _ (r : Resolution) where
    abbrev kept : List JInsn
    kept = reached code.insns rows

    abbrev place : ℕ → ℕ
    place offset = place_in r (reached code.insns rows) offset

    abbrev total : ℕ
    total = sizes r (reached code.insns rows)

    -- something is written at a reached instruction or behind it
    reached_below : (n at : ℕ) (i : JInsn) (x : State) → length code.insns ≤ at + n → slice_get code.insns at ≡ Some i
        → HasRow rows at x → place i.at < total
    reached_below zero at i x le e row = let lt = slice_get_within code.insns at i e in absurd (omega (arith, le, lt))
    reached_below (suc n) at i x le e row = go (size r i) refl (λ goes.
        (let lt = next_there files code class method tree is at i e goes in
        let next = get_inside code.insns (at + 1) lt in
        let on = closed.next at x i row e (at + 1) (next_on at i goes lt) in
        let later = reached_below n (at + 1) next.0 on.row (omega (arith, le)) next.1 on.is_row in
        let up = insns_ascend files code class method tree is at (at + 1) i next.0 e next.1 (omega arith) in
        let order = place_up r (reached code.insns rows) i.at next.0.at (omega (arith, up)) in
        omega (arith, later, order)))
      where
        here : place i.at + size r i ≤ total
        here = let k = reached_at code.insns rows at i x e row in place_below r (reached code.insns rows) i.at k.0 i k.1
            (omega arith)

        go : (m : ℕ) → size r i ≡ m → (goes_on i.op ≡ true → place i.at < total) → place i.at < total
        go (suc m) some on = let le = here in omega (arith, le, some)
        go zero none on = on (role_goes_on r i none)

    -- so it is at each offset at which a reached instruction stands
    offset_below : (offset to : ℕ) (x : State) → HasPlace code.insns offset → place_at code.insns offset ≡ Some to
        → Reaches (body_of class method tree code.insns) rows to x → place offset < total
    offset_below offset to x there found on =
        let p = there.1 in
        let same : there.0 ≡ to = cc_some there.0 to (sym p.found ∙ found) in
        let row : HasRow rows there.0 on.row = subst (λ k. HasRow rows k on.row) (sym same) on.is_row in
        let below = reached_below (length code.insns) there.0 p.insn on.row (omega arith) p.is_insn row in
        subst (λ o. place o < total) p.stands below
      where
        cc_some : (a b : ℕ) → Some a ≡ Some b → a ≡ b
        cc_some a b e = cc

    target_below : (k : ℕ) (i : JInsn) (t : ℕ) → slice_get (reached code.insns rows) k ≡ Some i
        → Contains (targets i.op) t → place t < total
    target_below k i t e there =
        let from = reached_from code.insns rows k i e in
        let lands = target_placed files code class method tree is from.0 i t from.2 there in
        let found = lands.1.found in
        let on = closed.next from.0 from.1 i from.3 from.2 lands.0
        (Contains-append_right _ _ lands.0 (contains_kept (place_at code.insns) (targets i.op) t lands.0 there found))
        in
        offset_below t lands.0 _ lands found on

    -- ---- handlers

    handler_below : (c : Catch) → Contains tree.catches c → place c.start < place c.end → place c.target < total
    handler_below c there lt =
        let inside = between r (reached code.insns rows) c.start c.end lt in
        let i = inside.1 in
        let from = reached_from code.insns rows inside.0 i inside.2 in
        let lands = handler_placed files code class method tree is c there in
        let found = lands.1.found in
        let covered : covers c i.at ≡ true = both (nat_le c.start i.at) (nat_lt i.at c.end)
        (le-leb c.start i.at inside.3) (lt-ltb i.at c.end inside.4) in
        let on = closed.handled from.0 from.1 i from.3 from.2 c there covered lands.0 found in
        offset_below c.target lands.0 _ lands found on
      where
        both : (a b : Bool) → a ≡ true → b ≡ true → (a && b) ≡ true
        both true true e f = refl
        both true false e f = f
        both false b e f = e

    catches_lie : (cs : List Catch) → ((c : Catch) → Contains cs c → Contains tree.catches c)
        → AllLie total (catches_at (place_in r (reached code.insns rows)) cs)
    catches_lie [] h = tt
    catches_lie (c ∷ cs) h = go (nat_lt (place c.start) (place c.end)) refl
        (catches_lie cs (λ d there. h d (contains_tail c cs d there)))
      where
        go : (b : Bool) → nat_lt (place c.start) (place c.end) ≡ b
            → AllLie total (catches_at (place_in r (reached code.insns rows)) cs)
            → AllLie total (if b then catch_at (place_in r (reached code.insns rows)) c
            ∷ catches_at (place_in r (reached code.insns rows)) cs
            else catches_at (place_in r (reached code.insns rows)) cs)
        go false e rest = rest
        go true e rest =
            let lt = ltb-true (place c.start) (place c.end) e in
            let end = place_low r (reached code.insns rows) c.end in
            ((omega (arith, lt, end), end, handler_below c (h c (contains_head c cs)) lt), rest)

    -- ---- the method

    pub narrow_whole : (nargs : ℕ) → IsWhole (narrow_method r tree nargs code.insns rows)
    narrow_whole nargs =
        let long = all_sizes r (place_in r (reached code.insns rows)) (reached code.insns rows) in
        record {
          leads = subst (λ n. AllLead n (narrow_code r (reached code.insns rows))) (sym long)
              (code_leads r (place_in r (reached code.insns rows)) total (reached code.insns rows) target_below);
          lies = subst (λ n. AllLie n (catches_at (place_in r (reached code.insns rows)) tree.catches)) (sym long)
              (catches_lie tree.catches (λ c there. there));
          size =
              let bytes = widest_is (narrow_code r (reached code.insns rows)) in
              let low = code_low r (place_in r (reached code.insns rows)) (reached code.insns rows)
              (λ k n i e kind. (let from = reached_from code.insns rows k i e
              in (stack_opcode files code class method tree is from.0 n i from.2 kind).0)) in
              omega (arith, bytes, low);
        }

  pub selected_whole : (near : List MemberId)
      → IsWhole (selected_code files near class method tree code.insns (rows_by (has_rows rows)))
  selected_whole near =
      let r = resolution files near class.name in
      let b = body_of class method tree code.insns in
      let n = argument_words method.flags method.desc in
      subst IsWhole (by_rows_there (with_pairs r b (has_rows rows)) tree n code.insns rows
      ∙ ap (λ hs. narrow_method (with_pairs r b hs) tree n code.insns (rows_by (has_rows rows)))
      (sym (has_rows_by (has_rows rows)))) (narrow_whole (with_pairs r b (has_rows rows)) n)
