-- The least closed table over segments stands for the least closed table.
use Rattle.std.proofs.Common.{◌≡◌, ◌<◌, ◌-◌, ℕ, zero, suc, List, [], ◌∷◌, Option, Some, None, slice_get, get_or, length}
use Rattle.std.proofs.Common.{map, filter_map, Contains, refl, sym, ◌∙◌, ap, subst, inl, inr, arith}
use Rattle.std.proofs.lemmas.Option.{slice_get_within, slice_get-get_or, get_or_from_slice_get, slice_get-map}
use Rattle.std.proofs.lemmas.List.Elements.{Contains-append_cases}
use Rattle.std.proofs.lemmas.List.{length-map}
use Rattle.cjc_fixpoint.specs.declared.flow.Edge.{Edge}
use Rattle.cjc_fixpoint.specs.Dataflow.{Dataflow, IsLawful, StaysWithin}
use Rattle.cjc_fixpoint.specs.Tables.{HasRow, Covers, IsBelow, IsClosed, IsLeastClosed}
use Rattle.cjc_fixpoint.specs.Kept.{handed, handed_on, AreMarks, MeetsAt, mark_of, row_of, full, StandsForLeast}
use Rattle.cjc_fixpoint.specs.Segments.{mark_edge, to_segment, run, segment_end, segment_edges, segments}
use Rattle.cjc_fixpoint.specs.Working.HandedLaws.{OwnMaybe, AboveMaybe, not_some, handed_some, handed_own, handed_least}
use Rattle.cjc_fixpoint.specs.Working.HandedLaws.{handed_in}
use Rattle.cjc_fixpoint.specs.Working.SegmentLaws.{contains_none, to_mark, from_mark}
use Rattle.cjc_fixpoint.proofs.Steps.{row_same}
use Rattle.cjc_fixpoint.proofs.Runs.{mark_is, is_mark, no_mark, before_end, goes_on, row_at_mark, row_off_mark}
use Rattle.cjc_fixpoint.proofs.Runs.{full_inside, full_is, full_has, full_sized, run_none, run_tail, run_head}

has_row : {S : Type 0} (rows : List (Option S)) (k : ℕ) (x : S) → get_or rows k None ≡ Some x → HasRow rows k x
has_row [] k x h = absurd (not_some x h)
has_row (r ∷ rs) zero x h = ap Some h
has_row (r ∷ rs) (suc k) x h = has_row rs k x h

-- ---- below a closed table

-- the row is a state of the flow, and below the other table's row
abbrev pub IsUnder : {S : Type 0} → Dataflow S → List (Option S) → ℕ → Option S → Type 0
IsUnder flow others at None = Unit {0}
IsUnder flow others at (Some x) = flow.Own x × Covers flow others at x

-- what others has at the marks
abbrev pub at_marks : {S : Type 0} → List (Option S) → List ℕ → List (Option S)
at_marks others marks = map (λ mark. get_or others mark None) marks

module _ {S : Type 0} (flow : Dataflow S) (laws : IsLawful flow) (places : ℕ) (others : List (Option S))
    (closed : IsClosed flow places others) where
  -- an edge from a row below leads to a row above
  pub covered : (at : ℕ) (x : S) → flow.Own x → Covers flow others at x → (e : Edge S) → Contains (flow.edges at x) e
      → Covers flow others e.to e.state
  covered at x own up e is =
      let own_up = closed.own at up.row up.is_row in
      let more = laws.monotone at x up.row own own_up up.above e is in
      let f : Edge S = more.0 in
      let c = closed.steps at up.row up.is_row f more.1 in
      record {
        row = c.row;
        is_row = subst (λ (i : ℕ). HasRow others i c.row) more.2 c.is_row;
        above = laws.transitive e.state f.state c.row (laws.own_edges at x own e is) (laws.own_edges at up.row own_up
            f more.1) (closed.own f.to c.row c.is_row) more.3 c.above;
      }

  pub under_next : (at : ℕ) (row : Option S) → IsUnder flow others at row
      → IsUnder flow others (suc at) (handed_on flow at row)
  under_next at None h = tt
  under_next at (Some x) h = go (handed flow (suc at) (flow.edges at x)) refl
    where
      own_edges : (e : Edge S) → Contains (flow.edges at x) e → flow.Own e.state
      own_edges = laws.own_edges at x h.0

      go : (next : Option S) → handed flow (suc at) (flow.edges at x) ≡ next → IsUnder flow others (suc at) next
      go None is = tt
      go (Some y) is =
          let source = handed_some flow (suc at) (flow.edges at x) y is in
          let e : Edge S = source.0 in
          let up = covered at x h.0 h.1 e source.1 in
          let z = up.row in
          let there : HasRow others (suc at) z = subst (λ (i : ℕ). HasRow others i z) source.2 up.is_row in
          let own_z = closed.own (suc at) z there in
          let own_y : OwnMaybe flow (Some y) = subst (λ (r : Option S). OwnMaybe flow r) is
          (handed_own flow laws (suc at) (flow.edges at x) own_edges) in
          let above_y : AboveMaybe flow (Some y) z = subst (λ (r : Option S). AboveMaybe flow r z) is
          (handed_least flow laws (suc at) (flow.edges at x) z own_z own_edges (λ f has to_next.
          let c = covered at x h.0 h.1 f has in
          subst (λ (v : S). flow.Below f.state v) (row_same others (suc at) c.row z
          (subst (λ (i : ℕ). HasRow others i c.row) to_next c.is_row) there) c.above)) in
          (own_y, record { row = z; is_row = there; above = above_y })

  module _ (marks : List ℕ) (are : AreMarks places marks) where
    -- the row at a mark, in the table of the marks alone
    pub row_there : (k at : ℕ) → slice_get marks k ≡ Some at → slice_get (at_marks others marks) k ≡ slice_get others at
    row_there k at is =
        let lt = are.inside k at is in
        let sized = closed.sized in
        let here = slice_get-map (λ mark. get_or others mark None) marks k in
        let there = slice_get-get_or others at None (omega (arith, lt, sized)) in
        cc

    mark_there : (k : ℕ) (x : S) → HasRow (at_marks others marks) k x → (at : ℕ) × (slice_get marks k ≡ Some at)
        × HasRow others at x
    mark_there k x has =
        let sized : length (at_marks others marks) ≡ length marks = length-map marks (λ mark. get_or others mark None)
        in
        let within = slice_get_within (at_marks others marks) k (Some x) has in
        let is = slice_get-get_or marks k 0 (omega (arith, sized, within)) in
        (get_or marks k 0, is, sym (row_there k (get_or marks k 0) is) ∙ has)

    -- an edge that leads to a mark leads to the mark's row
    covers_mark : (e : Edge S) (k : ℕ) (x : S) → mark_of marks e.to ≡ Some k → x ≡ e.state
        → Covers flow others e.to e.state → Covers flow (at_marks others marks) k x
    covers_mark e k x is same up = record {
      row = up.row;
      is_row = row_there k e.to (mark_is marks e.to k is) ∙ up.is_row;
      above = subst (λ (s : S). flow.Below s up.row) (sym same) up.above;
    }

    under_run : (n at : ℕ) (row : Option S) → IsUnder flow others at row → (e : Edge S)
        → Contains (run flow marks n at row) e → Covers flow (at_marks others marks) e.to e.state
    under_run zero at row under e has = absurd (contains_none e has)
    under_run (suc n) at None under e has = absurd (contains_none e has)
    under_run (suc n) at (Some x) under e has =
        elim (Contains-append_cases (filter_map (to_segment marks) (flow.edges at x)) (run flow marks n (suc at)
        (handed flow (suc at) (flow.edges at x))) e has) [
          | inl out ↦
              let from = from_mark marks (flow.edges at x) e out in
              covers_mark from.edge e.to e.state from.mark from.state (covered at x under.0 under.1 from.edge from.has)
          | inr rest ↦ under_run n (suc at) (handed flow (suc at) (flow.edges at x)) (under_next at (Some x) under) e
              rest
        ]

    -- a closed table is closed over segments
    pub closed_at_marks : IsClosed (segments flow places marks) (length marks) (at_marks others marks)
    closed_at_marks = record {
      sized = length-map marks (λ mark. get_or others mark None);
      own = λ k x has. let m = mark_there k x has in closed.own m.0 x m.2;
      entry = λ some.
          let there = slice_get-get_or marks 0 0 some in
          let lt = are.inside 0 (get_or marks 0 0) there in
          let up = closed.entry (omega (arith, lt)) in
          record { row = up.row; is_row = row_there 0 0 (are.first (omega (arith, lt))) ∙ up.is_row; above = up.above };
      steps = λ k x has e is.
          let m = mark_there k x has in
          let own = closed.own m.0 x m.2 in
          let up : Covers flow others m.0 x = record { row = x; is_row = m.2; above = laws.reflexive x own } in
          let is' : Contains (segment_edges flow places marks k (Some m.0) x) e =
          subst (λ (mark : Option ℕ). Contains (segment_edges flow places marks k mark x) e) m.1 is in
          let c = under_run (segment_end places marks k - m.0) m.0 (Some x) (own, up) e is' in
          record { row = c.row; is_row = c.is_row; above = c.above };
    }

    -- what kept rows below it stand for is below it
    pub under_all : (rows : List (Option S)) → IsBelow flow rows (at_marks others marks)
        → ((k : ℕ) (x : S) → HasRow rows k x → flow.Own x) → (at : ℕ)
        → IsUnder flow others at (row_of flow marks rows at)
    under_all rows below own at = go at
      where
        at_mark : (at k : ℕ) → mark_of marks at ≡ Some k → (row : Option S) → get_or rows k None ≡ row
            → IsUnder flow others at row
        at_mark at k is None e = tt
        at_mark at k is (Some x) e =
            let has : HasRow rows k x = has_row rows k x e in
            let up = below k x has in (
              own k x has,
              record {
                row = up.row;
                is_row = sym (row_there k at (mark_is marks at k is)) ∙ up.is_row;
                above = up.above;
              },
            )

        here : (at : ℕ) (mark : Option ℕ) → mark_of marks at ≡ mark → (handed : Option S)
            → (mark ≡ None → row_of flow marks rows at ≡ handed) → IsUnder flow others at handed
            → IsUnder flow others at (row_of flow marks rows at)
        here at (Some k) is handed e under = rw (row_at_mark flow marks rows at k is)
            (at_mark at k is (get_or rows k None) refl)
        here at None is handed e under = rw (e refl) under

        go : (at : ℕ) → IsUnder flow others at (row_of flow marks rows at)
        go zero = here zero (mark_of marks 0) refl None (λ none. rw none refl) tt
        go (suc at) = here (suc at) (mark_of marks (suc at)) refl (handed_on flow at (row_of flow marks rows at))
            (λ none. row_off_mark flow marks rows at none) (under_next at (row_of flow marks rows at) (go at))

-- ---- the theorem

-- the segment in which a place stands, whose run goes through the place
record Traced {S : Type 0} (flow : Dataflow S) (places : ℕ) (marks : List ℕ) (rows : List (Option S)) (at : ℕ) :
    Type 0 where
  k : ℕ
  mark : ℕ
  is_mark : slice_get marks k ≡ Some mark
  reaches : at < segment_end places marks k
  leads : (e : Edge S) → Contains (run flow marks (segment_end places marks k - at) at (row_of flow marks rows at)) e
      → Contains (run flow marks (segment_end places marks k - mark) mark (get_or rows k None)) e

module _ {S : Type 0} (flow : Dataflow S) (laws : IsLawful flow) (places : ℕ) (marks : List ℕ) (rows : List (Option S))
    (are : AreMarks places marks) (stays : StaysWithin flow places) (meets : MeetsAt flow places marks)
    (solved : IsLeastClosed (segments flow places marks) (length marks) rows) where
  -- a place with a mark begins its segment
  begins : (at k : ℕ) → mark_of marks at ≡ Some k → Traced flow places marks rows at
  begins at k is =
      let there = mark_is marks at k is in
      record {
        k = k;
        mark = at;
        is_mark = there;
        reaches = before_end places marks are k at there;
        leads = λ e has. subst (λ (r : Option S). Contains (run flow marks (segment_end places marks k - at) at r) e)
            (row_at_mark flow marks rows at k is) has;
      }

  traced : (at : ℕ) → at < places → Traced flow places marks rows at
  traced zero lt = begins zero 0 (is_mark marks are.ascending 0 0 (are.first lt))
  traced (suc at) lt = go (traced at (omega (arith, lt))) (mark_of marks (suc at)) refl
    where
      go : Traced flow places marks rows at → (mark : Option ℕ) → mark_of marks (suc at) ≡ mark
          → Traced flow places marks rows (suc at)
      go before (Some k) is = begins (suc at) k is
      go before None is = record {
        k = before.k;
        mark = before.mark;
        is_mark = before.is_mark;
        reaches = goes_on places marks before.k at before.reaches lt is are;
        leads = λ e has. before.leads e (run_tail flow marks (segment_end places marks before.k) at
            (row_of flow marks rows at) before.reaches e
            (subst (λ (r : Option S). Contains (run flow marks (segment_end places marks before.k - suc at) (suc at) r)
            e) (row_off_mark flow marks rows at is) has));
      }

  own_row : (at : ℕ) → OwnMaybe flow (row_of flow marks rows at)
  own_row at = go at
    where
      at_mark : (k : ℕ) (row : Option S) → get_or rows k None ≡ row → OwnMaybe flow row
      at_mark k None e = tt
      at_mark k (Some x) e = solved.closed.own k x (has_row rows k x e)

      next : (at : ℕ) (row : Option S) → OwnMaybe flow row → OwnMaybe flow (handed_on flow at row)
      next at None own = tt
      next at (Some x) own = handed_own flow laws (suc at) (flow.edges at x) (laws.own_edges at x own)

      here : (at : ℕ) (mark : Option ℕ) → mark_of marks at ≡ mark → (handed : Option S)
          → (mark ≡ None → row_of flow marks rows at ≡ handed) → OwnMaybe flow handed
          → OwnMaybe flow (row_of flow marks rows at)
      here at (Some k) is handed e own = rw (row_at_mark flow marks rows at k is) (at_mark k (get_or rows k None) refl)
      here at None is handed e own = rw (e refl) own

      go : (at : ℕ) → OwnMaybe flow (row_of flow marks rows at)
      go zero = here zero (mark_of marks 0) refl None (λ none. rw none refl) tt
      go (suc at) = here (suc at) (mark_of marks (suc at)) refl (handed_on flow at (row_of flow marks rows at))
          (λ none. row_off_mark flow marks rows at none) (next at (row_of flow marks rows at) (go at))

  own : (at : ℕ) (x : S) → HasRow (full flow places marks rows) at x → flow.Own x
  own at x has = subst (λ (r : Option S). OwnMaybe flow r) (full_is flow marks rows places at x has) (own_row at)

  -- what the segments' table covers at a mark
  covers_there : (at k : ℕ) (x : S) → mark_of marks at ≡ Some k → Covers (segments flow places marks) rows k x
      → Covers flow (full flow places marks rows) at x
  covers_there at k x is c = record {
    row = c.row;
    is_row = full_has flow marks rows places at c.row (are.inside k at (mark_is marks at k is)) (row_at_mark flow marks
        rows at k is ∙ get_or_from_slice_get rows k (Some c.row) None c.is_row);
    above = c.above;
  }

  entry : 0 < places → Covers flow (full flow places marks rows) 0 flow.entry
  entry some =
      let first = are.first some in
      covers_there 0 0 flow.entry (is_mark marks are.ascending 0 0 first) (solved.closed.entry (slice_get_within marks 0
      0 first))

  -- an edge in the run of a segment
  run_steps : (k mark : ℕ) → slice_get marks k ≡ Some mark → (row : Option S) → get_or rows k None ≡ row → (e : Edge S)
      → Contains (run flow marks (segment_end places marks k - mark) mark row) e
      → Covers (segments flow places marks) rows e.to e.state
  run_steps k mark is None e f has = absurd (run_none flow marks (segment_end places marks k - mark) mark f has)
  run_steps k mark is (Some x) e f has =
      solved.closed.steps k x (has_row rows k x e) f (subst (λ (m : Option ℕ). Contains (segment_edges flow places marks
      k m x) f) (sym is) has)

  steps : (at : ℕ) (x : S) → HasRow (full flow places marks rows) at x → (e : Edge S) → Contains (flow.edges at x) e
      → Covers flow (full flow places marks rows) e.to e.state
  steps at x has e is = go (mark_of marks e.to) refl
    where
      lt : at < places
      lt = full_inside flow marks rows places at x has

      is_row : row_of flow marks rows at ≡ Some x
      is_row = full_is flow marks rows places at x has

      own_x : flow.Own x
      own_x = own at x has

      go_next : mark_of marks (suc at) ≡ None → e.to ≡ suc at → Covers flow (full flow places marks rows) e.to e.state
      go_next none next =
          let inside = stays at x lt own_x e is in
          let up = handed_in flow laws (suc at) (flow.edges at x) (laws.own_edges at x own_x) e is next in
          let there = row_off_mark flow marks rows at none ∙ ap (handed_on flow at) is_row ∙ up.is in
          record {
            row = up.state;
            is_row = subst (λ (i : ℕ). HasRow (full flow places marks rows) i up.state)
                (sym next) (full_has flow marks rows places (suc at) up.state (subst (λ (i : ℕ). i < places) next
                inside)
                there);
            above = up.above;
          }

      go : (mark : Option ℕ) → mark_of marks e.to ≡ mark → Covers flow (full flow places marks rows) e.to e.state
      go (Some k) to =
          let t = traced at lt in
          let out = to_mark marks (flow.edges at x) e k is to in
          let head = run_head flow marks (segment_end places marks t.k) at x t.reaches (mark_edge e.state k) out in
          let led = t.leads (mark_edge e.state k)
          (subst (λ (r : Option S). Contains (run flow marks (segment_end places marks t.k - at) at r)
          (mark_edge e.state k)) (sym is_row) head) in
          covers_there e.to k e.state to (run_steps t.k t.mark t.is_mark (get_or rows t.k None) refl
          (mark_edge e.state k) led)
      go None none = elim (meets at x lt own_x e is) [
        | inl next ↦ go_next (subst (λ (i : ℕ). mark_of marks i ≡ None) next none) next
        | inr (j, lt_j, there) ↦ absurd (not_contained none (j, lt_j, there))
      ]
        where
          not_contained : mark_of marks e.to ≡ None → Contains marks e.to → ⊥
          not_contained none (j, lt_j, there) = no_mark marks are.ascending j e.to none (slice_get-get_or marks j e.to
              lt_j ∙ ap Some there)

  pub filled_least : IsLeastClosed flow places (full flow places marks rows)
  filled_least = record {
    closed = record { sized = full_sized flow marks rows places; own = own; entry = entry; steps = steps };
    least = λ others closed at x has.
        let below = solved.least (at_marks others marks) (closed_at_marks flow laws places others closed marks are) in
        let under = under_all flow laws places others closed marks are rows (λ k y h. let c = below k y h
        in record { row = c.row; is_row = c.is_row; above = c.above }) solved.closed.own at in
        (subst (λ (r : Option S). IsUnder flow others at r) (full_is flow marks rows places at x has) under).1;
  }

  pub stands : StandsForLeast flow places marks rows
  stands = record { marked = are; sized = solved.closed.sized; least = filled_least }
