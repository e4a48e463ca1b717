-- Shortened segments have the edges of segments, each at least once.
use Rattle.std.proofs.Common.{◌≡◌, ◌⊎◌, ◌<◌, ◌-◌, ◌||◌, not, ℕ, zero, suc, Bool, true, false, List, [], ◌∷◌, ◌++◌}
use Rattle.std.proofs.Common.{Option, Some, None, option_map, slice_get, length, filter_map, Contains, is_some, refl}
use Rattle.std.proofs.Common.{sym, ◌∙◌, ap, subst, inl, inr, arith}
use Rattle.std.proofs.lemmas.List.Elements.{Contains-append_cases, Contains-append_left, Contains-append_right}
use Rattle.cjc_fixpoint.specs.declared.flow.Edge.{Edge}
use Rattle.cjc_fixpoint.specs.Dataflow.{Dataflow, IsLawful, AreBelow, StaysWithin}
use Rattle.cjc_fixpoint.specs.Kept.{handed, mark_of}
use Rattle.cjc_fixpoint.specs.Segments.{to_segment, mark_edge, run, segment_end, segment_edges, segments}
use Rattle.cjc_fixpoint.specs.Shortened.{IsRepeated, AreRepeats, asked, short_run, short_edges, shortened}
use Rattle.cjc_fixpoint.specs.Working.HandedLaws.{OwnMaybe, not_some, handed_own}
use Rattle.cjc_fixpoint.specs.Working.SegmentLaws.{contains_none, contains_kept, kept_from, some_of, segments_laws}
use Rattle.cjc_fixpoint.specs.Working.SegmentLaws.{segments_stay}

module _ {S : Type 0} (flow : Dataflow S) (marks : List ℕ) (again : ℕ → Bool) where
  asked_in : (b : Bool) (at : ℕ) (x : S) (e : Edge S) → Contains (asked flow marks b at x) e
      → Contains (filter_map (to_segment marks) (flow.edges at x)) e
  asked_in true at x e has = has
  asked_in false at x e has = absurd (contains_none e has)

  -- no edge is new
  pub short_in : (n at : ℕ) (asks : Bool) (row : Option S) (e : Edge S)
      → Contains (short_run flow marks again n at asks row) e → Contains (run flow marks n at row) e
  short_in zero at asks row e has = has
  short_in (suc n) at asks None e has = has
  short_in (suc n) at asks (Some x) e has =
      let out = filter_map (to_segment marks) (flow.edges at x) in
      let next = handed flow (suc at) (flow.edges at x) in
      elim (Contains-append_cases (asked flow marks (asks || is_some (mark_of marks (suc at))) at x)
      (short_run flow marks again n (suc at) (not (again (suc at))) next) e has) [
        | inl here ↦ Contains-append_left out (run flow marks n (suc at) next) e (asked_in (asks
            || is_some (mark_of marks (suc at))) at x e here)
        | inr rest ↦ Contains-append_right out (run flow marks n (suc at) next) e
            (short_in n (suc at) (not (again (suc at))) next e rest)
      ]

  -- a place that is not asked has only edges that are known
  abbrev IsKnown : (Q : Edge S → Type 0) → (at : ℕ) → Bool → Option S → Type 0
  IsKnown Q at asks row = (x : S) → row ≡ Some x → asks ≡ false → mark_of marks (suc at) ≡ None → (e : Edge S)
      → Contains (filter_map (to_segment marks) (flow.edges at x)) e → Q e

  -- at a place that repeats
  known_next : AreRepeats flow again → (at : ℕ) (x : S) → flow.Own x
      → IsKnown (λ e. Contains (filter_map (to_segment marks) (flow.edges at x)) e) (suc at) (not (again (suc at)))
      (handed flow (suc at) (flow.edges at x))
  known_next repeats at x own y is_row off unmarked e has =
      let from = kept_from (to_segment marks) (flow.edges (suc at) y) e has in
      let d : Edge S = from.0 in
      elim (repeats at (is_true (again (suc at)) off) x y own is_row d from.1) [
        | inl next ↦ let both = some_of d.state (mark_of marks d.to) e from.2
            in absurd (not_some e.to (sym unmarked ∙ ap (mark_of marks) (sym next) ∙ both.0))
        | inr before ↦ contains_kept (to_segment marks) (flow.edges at x) d e before from.2
      ]
    where
      is_true : (b : Bool) → not b ≡ false → b ≡ true
      is_true true h = refl
      is_true false h = sym h

  -- no edge is missing
  all_in : IsLawful flow → AreRepeats flow again → (Q : Edge S → Type 0) (n at : ℕ) (asks : Bool) (row : Option S)
      → OwnMaybe flow row → IsKnown Q at asks row → (e : Edge S) → Contains (run flow marks n at row) e
      → Contains (short_run flow marks again n at asks row) e ⊎ Q e
  all_in laws repeats Q zero at asks row own known e has = inl has
  all_in laws repeats Q (suc n) at asks None own known e has = inl has
  all_in laws repeats Q (suc n) at asks (Some x) own known e has =
      elim (Contains-append_cases out (run flow marks n (suc at) next) e has) [
        | inl here ↦ head asks (mark_of marks (suc at)) refl refl here
        | inr later ↦ elim (all_in laws repeats (λ f. Contains out f) n (suc at) (not (again (suc at))) next
            (handed_own flow laws (suc at) (flow.edges at x) (laws.own_edges at x own)) (known_next repeats at x own) e
            later) [
              | inl short ↦ inl (Contains-append_right (asked flow marks (asks || is_some (mark_of marks (suc at))) at
                  x)
                  (short_run flow marks again n (suc at) (not (again (suc at))) next) e short)
              | inr here ↦ head asks (mark_of marks (suc at)) refl refl here
            ]
      ]
    where
      out : List (Edge S)
      out = filter_map (to_segment marks) (flow.edges at x)

      next : Option S
      next = handed flow (suc at) (flow.edges at x)

      here_of : (b : Bool) → b ≡ true → Contains out e → Contains (asked flow marks b at x
          ++ short_run flow marks again n (suc at) (not (again (suc at))) next) e
      here_of true is h = Contains-append_left out (short_run flow marks again n (suc at) (not (again (suc at))) next) e
          h
      here_of false is h = absurd (false_not is)
        where
          false_not : false ≡ true → ⊥
          false_not h = cc

      head : (a : Bool) (m : Option ℕ) → asks ≡ a → mark_of marks (suc at) ≡ m → Contains out e
          → Contains (asked flow marks (asks || is_some (mark_of marks (suc at))) at x
          ++ short_run flow marks again n (suc at) (not (again (suc at))) next) e ⊎ Q e
      head true m is_a is_m h = inl (here_of (asks || is_some (mark_of marks (suc at))) (rw is_a refl) h)
      head false (Some k) is_a is_m h = inl (here_of (asks || is_some (mark_of marks (suc at))) (rw (is_a, is_m) refl)
          h)
      head false None is_a is_m h = inr (known x refl is_a is_m e h)

-- each edge of a shortened segment is one of the segment
pub short_from : {S : Type 0} (flow : Dataflow S) (places : ℕ) (marks : List ℕ) (again : ℕ
    → Bool) (k : ℕ) (x : S) (e : Edge S) → Contains (short_edges flow places marks again k (slice_get marks k) x) e
    → Contains (segment_edges flow places marks k (slice_get marks k) x) e
short_from {S} flow places marks again k x e has = go (slice_get marks k) has
  where
    go : (mark : Option ℕ) → Contains (short_edges flow places marks again k mark x) e
        → Contains (segment_edges flow places marks k mark x) e
    go None h = h
    go (Some mark) h = short_in flow marks again (segment_end places marks k - mark) mark true (Some x) e h

-- each edge of a segment is one of the shortened segment, where the places that are passed over are repeats
pub short_to : {S : Type 0} (flow : Dataflow S) → IsLawful flow → (places : ℕ) (marks : List ℕ) (again : ℕ → Bool)
    → AreRepeats flow again → (k : ℕ) (x : S) → flow.Own x → (e : Edge S)
    → Contains (segment_edges flow places marks k (slice_get marks k) x) e
    → Contains (short_edges flow places marks again k (slice_get marks k) x) e
short_to {S} flow laws places marks again repeats k x own e has = go (slice_get marks k) has
  where
    true_not : true ≡ false → ⊥
    true_not h = cc

    go : (mark : Option ℕ) → Contains (segment_edges flow places marks k mark x) e
        → Contains (short_edges flow places marks again k mark x) e
    go None h = h
    go (Some mark) h = elim (all_in flow marks again laws repeats (λ f. ⊥) (segment_end places marks k - mark) mark true
        (Some x) own (λ y is off. absurd (true_not off)) e h) [
          | inl short ↦ short
          | inr none ↦ absurd none
        ]

-- no edge of a shortened segment leaves the segments
pub shortened_stays : {S : Type 0} (flow : Dataflow S) (places : ℕ) (marks : List ℕ) (again : ℕ → Bool)
    → StaysWithin (shortened flow places marks again) (length marks)
shortened_stays flow places marks again k x lt own e has = segments_stay flow places marks k x lt own e
    (short_from flow places marks again k x e has)

-- where a flow obeys the laws and the places that are passed over are repeats, the shortened one obeys them
pub shortened_laws : {S : Type 0} (flow : Dataflow S) → IsLawful flow → (places : ℕ) (marks : List ℕ) (again : ℕ → Bool)
    → AreRepeats flow again → IsLawful (shortened flow places marks again)
shortened_laws {S} flow laws places marks again repeats = record {
  reflexive = laws.reflexive;
  transitive = laws.transitive;
  own_entry = laws.own_entry;
  own_edges = λ k x own e has. whole.own_edges k x own e (short_from flow places marks again k x e has);
  is_join = λ x y own_x own_y. let j = laws.is_join x y own_x own_y in record {
    own = j.own;
    above_left = j.above_left;
    above_right = j.above_right;
    least = j.least;
  };
  monotone = λ k x y own_x own_y h e has.
      let more = whole.monotone k x y own_x own_y h e (short_from flow places marks again k x e has) in
      (more.0, short_to flow laws places marks again repeats k y own_y more.0 more.1, more.2, more.3);
  rises = laws.rises;
  bounded = laws.bounded;
}
  where
    whole : IsLawful (segments flow places marks)
    whole = segments_laws flow laws places marks

-- of a flow that knows no such place
pub never : {S : Type 0} (flow : Dataflow S) → AreRepeats flow (λ at. false)
never flow at is = absurd (not_true is)
  where
    not_true : false ≡ true → ⊥
    not_true h = cc
