-- A place without a mark at which no range of a handler begins or ends repeats the place before, if the locals are the
-- same.
use Rattle.std.proofs.Common.{◌≡◌, ◌+◌, ◌⊎◌, ℕ, suc, Bool, true, false, cond, nat_lt, List, map, filter_map, length}
use Rattle.std.proofs.Common.{slice_get, get_or, Option, Some, None, option_map, [], ◌∷◌, Contains, refl, sym, ◌∙◌, ap}
use Rattle.std.proofs.Common.{subst, inl, inr, arith}
use Rattle.std.proofs.lemmas.List.Elements.{Contains-append_cases, Contains-append_right}
use Rattle.cjc_range.specs.Span.{Span, full}
use Rattle.cjc_types.specs.ClassFile.declared.tree.Catch.{Catch}
use Rattle.cjc_types.specs.Bytecode.declared.insn.JInsn.{JInsn}
use Rattle.cjc_types.specs.Bytecode.declared.insn.JOp.{JOp}
use Rattle.cjc_types.specs.Bytecode.declared.insn.JOp.TheVariants as jop
use Rattle.cjc_fixpoint.specs.declared.flow.Edge.{Edge}
use Rattle.cjc_fixpoint.specs.Kept.{handed, mark_of}
use Rattle.cjc_fixpoint.specs.Shortened.{AreRepeats}
use Rattle.cjc_fixpoint.specs.Working.SegmentLaws.{contains_none, contains_kept}
use Rattle.cjc_types.specs.declared.state.State.{State}
use Rattle.cjc_types.specs.Steps.{goes_on}
use Rattle.cjc_types.specs.Flow.{place_at, successors, covers}
use Rattle.cjc_types.specs.Marks.{is_marked, marks_of}
use Rattle.cjc_types.specs.Repeats.{CoverAlike, keeps_locals, repeats_at}
use Rattle.cjc_types.specs.Working.MarkLaws.{map_from, mark_none, leads_unmarked}
use Rattle.cjc_types.specs.Working.RepeatLaws.{repeats_by_insns}
use Rattle.cjc_intervals.specs.Frames.{StackOf, Cells, RangeState}
use Rattle.cjc_intervals.specs.Steps.{locals_after}
use Rattle.cjc_intervals.specs.Flow.{caught}
use Rattle.cjc_flow.specs.Working.Kept.{Ranged, after_at, kept_edge, kept_handler, kept_place, kept_flow, kept_on_by}
use Rattle.cjc_flow.specs.Working.Kept.{kept_on}
use Rattle.cjc_flow.specs.Working.KeptLaws.{kept_goes}

same_locals : (op : JOp) (locals : List Span) (s : StackOf Span) → keeps_locals op ≡ true → locals_after op locals s
    ≡ locals
same_locals (jop.Store refs k) locals s h = absurd cc
same_locals (jop.Inc k by) locals s h = absurd cc
same_locals _ locals s h = refl

module _ (r : Ranged) where
  edges_at : (at : ℕ) (j : JInsn) (row : Option State) (y : RangeState) (e : Edge RangeState)
      → Contains (kept_place r at (Some j) row y) e → Contains (successors r.body.insns at j.op) e.to
      ⊎ Contains (filter_map (kept_handler r j.at y) r.body.catches) e
  edges_at at j None y e has = absurd (contains_none e has)
  edges_at at j (Some t) y e has =
      elim (Contains-append_cases (map (kept_edge r (after_at r at j t y)) (successors r.body.insns at j.op))
      (filter_map (kept_handler r j.at y) r.body.catches) e has) [
        | inl follows ↦ let from = map_from (kept_edge r (after_at r at j t y)) (successors r.body.insns at j.op) e
            follows in inl (subst (λ (n : ℕ). Contains (successors r.body.insns at j.op) n)
            (ap (λ (f : Edge RangeState). f.to) from.2) from.1)
        | inr handled ↦ inr handled
      ]

  -- what goes on has the locals that came
  locals_kept : (at : ℕ) (i : JInsn) (t : State) (x y : RangeState) (lt : Bool) → keeps_locals i.op ≡ true
      → cond lt (kept_on_by r at (Some i) (Some t) x) None ≡ Some y → x.locals ≡ y.locals
  locals_kept at i t x y false keeps h = absurd cc
  locals_kept at i t x y true keeps h = go (goes_on i.op) h
    where
      go : (on : Bool) → cond on (Some (after_at r at i t x)) None ≡ Some y → x.locals ≡ y.locals
      go false e = absurd cc
      go true e = let is_y : after_at r at i t x ≡ y = cc in sym (same_locals i.op x.locals x.stack keeps)
          ∙ ap (λ (z : RangeState). z.locals) is_y

  same_handler : (offset here : ℕ) (x y : RangeState) (c : Catch) → covers c offset ≡ covers c here
      → x.locals ≡ y.locals → kept_handler r offset x c ≡ kept_handler r here y c
  same_handler offset here x y c covered locals =
      ap (λ (is : Bool). cond is (option_map (kept_edge r (caught x)) (place_at r.body.insns c.target)) None) covered
      ∙ ap (λ (l : List Span). cond (covers c here) (option_map (kept_edge r (record {
        stack = Cells (full ∷ []);
        locals = l;
      })) (place_at r.body.insns c.target)) None) locals

  handled_by : (at : ℕ) (i : JInsn) (row : Option State) (x y : RangeState) → keeps_locals i.op ≡ true
      → cond (nat_lt (at + 1) (length r.body.insns)) (kept_on_by r at (Some i) row x) None ≡ Some y
      → (offset : ℕ) (c : Catch) (e : Edge RangeState) → Contains r.body.catches c → covers c i.at ≡ covers c offset
      → kept_handler r offset y c ≡ Some e → Contains (kept_place r at (Some i) row x) e
  handled_by at i None x y keeps h offset c e has covered is = absurd (no_row (nat_lt (at + 1) (length r.body.insns)) h)
    where
      no_row : (lt : Bool) → cond lt (kept_on_by r at (Some i) None x) None ≡ Some y → ⊥
      no_row true k = cc
      no_row false k = cc
  handled_by at i (Some t) x y keeps h offset c e has covered is =
      let locals = locals_kept at i t x y (nat_lt (at + 1) (length r.body.insns)) keeps h in
      let before : kept_handler r i.at x c ≡ Some e = same_handler i.at offset x y c covered locals ∙ is in
      Contains-append_right (map (kept_edge r (after_at r at i t x)) (successors r.body.insns at i.op))
      (filter_map (kept_handler r i.at x) r.body.catches) e (contains_kept (kept_handler r i.at x) r.body.catches c
      e has before)

  handled_again : (at : ℕ) (i : JInsn) (x y : RangeState) → slice_get r.body.insns at ≡ Some i
      → mark_of (marks_of r.body) (suc at) ≡ None → keeps_locals i.op ≡ true
      → handed (kept_flow r) (suc at) (kept_place r at (slice_get r.body.insns at) (get_or r.types at None) x) ≡ Some y
      → (offset : ℕ) (c : Catch) (e : Edge RangeState) → Contains r.body.catches c → covers c i.at ≡ covers c offset
      → kept_handler r offset y c ≡ Some e
      → Contains (kept_place r at (slice_get r.body.insns at) (get_or r.types at None) x) e
  handled_again at i x y is_i none keeps is_row offset c e has covered is =
      let unmarked : is_marked r.body (suc at) ≡ false =
      mark_none r.body (suc at) (λ zero_is. absurd (omega (arith, zero_is))) none in
      let gone : kept_on r at x ≡ Some y = sym (kept_goes r at x (leads_unmarked r.body at none) unmarked) ∙ is_row in
      let here = sym (ap (λ (o : Option JInsn). cond (nat_lt (at + 1) (length r.body.insns))
      (kept_on_by r at o (get_or r.types at None) x) None) is_i) ∙ gone in
      subst (λ (o : Option JInsn). Contains (kept_place r at o (get_or r.types at None) x) e) (sym is_i)
      (handled_by at i (get_or r.types at None) x y keeps here offset c e has covered is)

  pub kept_repeats : (bounds : List Bool) → CoverAlike r.body.insns bounds r.body.catches
      → AreRepeats (kept_flow r) (λ at. repeats_at r.body bounds at)
  kept_repeats bounds cover = repeats_by_insns r.body (kept_flow r) (kept_handler r) (record {
    edges = λ at j y e is_j has. edges_at at j (get_or r.types at None) y e
        (subst (λ (o : Option JInsn). Contains (kept_place r at o (get_or r.types at None) y) e) is_j has);
    again = handled_again;
  }) bounds cover
