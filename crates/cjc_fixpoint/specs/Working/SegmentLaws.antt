-- The flow over segments obeys the laws of flows and stays among its segments.
use Rattle.std.proofs.Common.{◌≡◌, ◌==◌, ◌<◌, ◌-◌, ℕ, zero, suc, List, [], ◌∷◌, Option, Some, None, option_map}
use Rattle.std.proofs.Common.{slice_get, length, filter_map, Contains, refl, sym, ◌∙◌, ap, subst, inl, inr, arith}
use Rattle.std.specs.List.{cons_option}
use Rattle.std.proofs.lemmas.List.Quantifiers.{position-Some}
use Rattle.std.proofs.lemmas.List.Elements.{Contains-append_cases}
use Rattle.cjc_fixpoint.specs.declared.flow.Edge.{Edge}
use Rattle.cjc_fixpoint.specs.Dataflow.{Dataflow, IsLawful, AreBelow, StaysWithin}
use Rattle.cjc_fixpoint.specs.Working.Edges.{contains_head, contains_tail, contains_cons, AreBelow-append}
use Rattle.cjc_fixpoint.specs.Kept.{handed, mark_of}
use Rattle.cjc_fixpoint.specs.Segments.{mark_edge, to_segment, run, segment_end, segment_edges, segments}
use Rattle.cjc_fixpoint.specs.Working.HandedLaws.{OwnMaybe, IsIn, some_injective, not_some, handed_own, handed_up}

-- an empty list contains nothing
pub contains_none : {X : Type 0} (x : X) → Contains [] x → ⊥
contains_none x (k, lt, e) = omega arith

-- what an item of the list is mapped to is kept
pub contains_kept : {A B : Type 0} (h : A → Option B) (xs : List A) (x : A) (y : B) → Contains xs x → h x ≡ Some y
    → Contains (filter_map h xs) y
contains_kept h [] x y has is = absurd (contains_none x has)
contains_kept {A} {B} h (z ∷ zs) x y has is = elim (contains_cons z zs x has) [
  | inl same ↦ subst (λ (o : Option B). Contains (cons_option o (filter_map h zs)) y) (sym (ap h same ∙ is))
      (contains_head y (filter_map h zs))
  | inr later ↦ kept (h z) (contains_kept h zs x y later is)
]
  where
    kept : (o : Option B) → Contains (filter_map h zs) y → Contains (cons_option o (filter_map h zs)) y
    kept None rest = rest
    kept (Some w) rest = contains_tail w (filter_map h zs) y rest

-- what is kept is what some item of the list is mapped to
pub kept_from : {A B : Type 0} (h : A → Option B) (xs : List A) (y : B) → Contains (filter_map h xs) y → (x : A)
    × Contains xs x × (h x ≡ Some y)
kept_from h [] y has = absurd (contains_none y has)
kept_from {A} {B} h (z ∷ zs) y has = go (λ k. let m = kept_from h zs y k in (m.0, contains_tail z zs m.0 m.1, m.2))
    (h z) refl has
  where
    go : (Contains (filter_map h zs) y → (x : A) × Contains (z ∷ zs) x × (h x ≡ Some y)) → (o : Option B) → h z ≡ o
        → Contains (cons_option o (filter_map h zs)) y → (x : A) × Contains (z ∷ zs) x × (h x ≡ Some y)
    go later None is k = later k
    go later (Some w) is k = elim (contains_cons w (filter_map h zs) y k) [
      | inl same ↦ (z, contains_head z zs, is ∙ ap Some same)
      | inr more ↦ later more
    ]

-- an edge that is made of a state and a mark goes to that mark, with that state
pub some_of : {S : Type 0} (state : S) (mark : Option ℕ) (f : Edge S) → option_map (mark_edge state) mark ≡ Some f
    → (mark ≡ Some f.to) × (f.state ≡ state)
some_of state None f h = absurd (not_some f h)
some_of {S} state (Some k) f h =
    let same : mark_edge state k ≡ f = some_injective (mark_edge state k) f h in
    (ap (λ (e : Edge S). Some e.to) same, ap (λ (e : Edge S). e.state) (sym same))

some_to : {S : Type 0} (state : S) (mark : Option ℕ) (k : ℕ) → mark ≡ Some k → option_map (mark_edge state) mark
    ≡ Some (mark_edge state k)
some_to state mark k h = ap (option_map (mark_edge state)) h

-- an edge to a mark
pub to_mark : {S : Type 0} (marks : List ℕ) (es : List (Edge S)) (e : Edge S) (k : ℕ) → Contains es e
    → mark_of marks e.to ≡ Some k → Contains (filter_map (to_segment marks) es) (mark_edge e.state k)
to_mark marks es e k has is = contains_kept (to_segment marks) es e (mark_edge e.state k) has
    (some_to e.state (mark_of marks e.to) k is)

-- the edge of the flow, to the mark and with the state, that an edge to a segment comes from
pub record FromEdge {S : Type 0} (marks : List ℕ) (es : List (Edge S)) (f : Edge S) : Type 0 where
  pub edge : Edge S
  pub has : Contains es edge
  pub mark : mark_of marks edge.to ≡ Some f.to
  pub state : f.state ≡ edge.state

-- each edge to a segment comes from one of the flow
pub from_mark : {S : Type 0} (marks : List ℕ) (es : List (Edge S)) (f : Edge S)
    → Contains (filter_map (to_segment marks) es) f → FromEdge marks es f
from_mark marks es f has =
    let m = kept_from (to_segment marks) es f has in
    let both = some_of m.0.state (mark_of marks m.0.to) f m.2 in
    record { edge = m.0; has = m.1; mark = both.0; state = both.1 }

-- a place's mark is one of the marks
pub mark_within : (marks : List ℕ) (at k : ℕ) → mark_of marks at ≡ Some k → k < length marks
mark_within marks at k is = (position-Some (λ mark. mark == at) marks k at is).0

module _ {S : Type 0} (flow : Dataflow S) (laws : IsLawful flow) (marks : List ℕ) where
  -- own states and their edges
  pub run_own : (n at : ℕ) (row : Option S) → OwnMaybe flow row → (e : Edge S) → Contains (run flow marks n at row) e
      → flow.Own e.state
  run_own zero at row own e has = absurd (contains_none e has)
  run_own (suc n) at None own e has = absurd (contains_none e has)
  run_own (suc n) at (Some x) own e has =
      elim (Contains-append_cases (filter_map (to_segment marks) (flow.edges at x)) (run flow marks n (suc at)
      (handed flow (suc at) (flow.edges at x))) e has) [
        | inl out ↦ let from = from_mark marks (flow.edges at x) e out
            in subst flow.Own (sym from.state) (laws.own_edges at x own from.edge from.has)
        | inr rest ↦ run_own n (suc at) (handed flow (suc at) (flow.edges at x)) (handed_own flow laws (suc at)
            (flow.edges at x) (laws.own_edges at x own)) e rest
      ]

  out_up : (es fs : List (Edge S)) → AreBelow flow es fs → AreBelow flow (filter_map (to_segment marks) es)
      (filter_map (to_segment marks) fs)
  out_up es fs below e has =
      let from = from_mark marks es e has in
      let more = below from.edge from.has in
      let f : Edge S = more.0 in (
        mark_edge f.state e.to,
        to_mark marks fs f e.to more.1 (ap (mark_of marks) more.2 ∙ from.mark),
        refl,
        subst (λ (s : S). flow.Below s f.state) (sym from.state) more.3,
      )

  pub run_up : (n at : ℕ) (row other : Option S) → OwnMaybe flow row → OwnMaybe flow other → ((x : S) → row ≡ Some x
      → IsIn flow x other) → AreBelow flow (run flow marks n at row) (run flow marks n at other)
  run_up zero at row other own own' below e has = absurd (contains_none e has)
  run_up (suc n) at None other own own' below e has = absurd (contains_none e has)
  run_up (suc n) at (Some x) None own own' below e has = absurd (let top = below x refl in not_some top.state top.is)
  run_up (suc n) at (Some x) (Some y) own own' below e has =
      let top = below x refl in
      let above : flow.Below x y = subst (λ (s : S). flow.Below x s) (sym (some_injective y top.state top.is)) top.above
      in
      let edges_up = laws.monotone at x y own own' above in
      let own_x = laws.own_edges at x own in
      let own_y = laws.own_edges at y own' in
      AreBelow-append flow (filter_map (to_segment marks) (flow.edges at x)) (filter_map (to_segment marks)
      (flow.edges at y)) (run flow marks n (suc at) (handed flow (suc at) (flow.edges at x)))
      (run flow marks n (suc at) (handed flow (suc at) (flow.edges at y)))
      (out_up (flow.edges at x) (flow.edges at y) edges_up)
      (run_up n (suc at) (handed flow (suc at) (flow.edges at x)) (handed flow (suc at) (flow.edges at y))
      (handed_own flow laws (suc at) (flow.edges at x) own_x) (handed_own flow laws (suc at) (flow.edges at y)
      own_y) (handed_up flow laws (suc at) (flow.edges at x) (flow.edges at y) own_x own_y edges_up)) e has

-- what places in a row hand on goes to segments that there are
pub run_within : {S : Type 0} (flow : Dataflow S) (marks : List ℕ) (n at : ℕ) (row : Option S) (e : Edge S)
    → Contains (run flow marks n at row) e → e.to < length marks
run_within flow marks zero at row e has = absurd (contains_none e has)
run_within flow marks (suc n) at None e has = absurd (contains_none e has)
run_within flow marks (suc n) at (Some x) e has =
    elim (Contains-append_cases (filter_map (to_segment marks) (flow.edges at x)) (run flow marks n (suc at)
    (handed flow (suc at) (flow.edges at x))) e has) [
      | inl out ↦ let from = from_mark marks (flow.edges at x) e out in mark_within marks from.edge.to e.to from.mark
      | inr rest ↦ run_within flow marks n (suc at) (handed flow (suc at) (flow.edges at x)) e rest
    ]

-- no edge of a segment leaves the segments
pub segments_stay : {S : Type 0} (flow : Dataflow S) (places : ℕ) (marks : List ℕ)
    → StaysWithin (segments flow places marks) (length marks)
segments_stay {S} flow places marks k x lt own e has = go (slice_get marks k) has
  where
    go : (mark : Option ℕ) → Contains (segment_edges flow places marks k mark x) e → e.to < length marks
    go None h = absurd (contains_none e h)
    go (Some mark) h = run_within flow marks (segment_end places marks k - mark) mark (Some x) e h

-- where a flow obeys the laws, the one over segments does
pub segments_laws : {S : Type 0} (flow : Dataflow S) → IsLawful flow → (places : ℕ) (marks : List ℕ)
    → IsLawful (segments flow places marks)
segments_laws {S} flow laws places marks = record {
  reflexive = laws.reflexive;
  transitive = laws.transitive;
  own_entry = laws.own_entry;
  own_edges = λ k x own e has. own_by k (slice_get marks k) x own e has;
  is_join = λ x y own_x own_y. let j = laws.is_join x y own_x own_y in record {
    own = j.own;
    above_left = j.above_left;
    above_right = j.above_right;
    least = j.least;
  };
  monotone = λ k x y own_x own_y h. up_by k (slice_get marks k) x y own_x own_y h;
  rises = laws.rises;
  bounded = laws.bounded;
}
  where
    own_by : (k : ℕ) (mark : Option ℕ) (x : S) → flow.Own x → (e : Edge S)
        → Contains (segment_edges flow places marks k mark x) e → flow.Own e.state
    own_by k None x own e has = absurd (contains_none e has)
    own_by k (Some mark) x own e has = run_own flow laws marks (segment_end places marks k - mark) mark (Some x) own e
        has

    up_by : (k : ℕ) (mark : Option ℕ) (x y : S) → flow.Own x → flow.Own y → flow.Below x y
        → AreBelow (segments flow places marks) (segment_edges flow places marks k mark x) (segment_edges flow places
        marks k mark y)
    up_by k None x y own_x own_y h e has = absurd (contains_none e has)
    up_by k (Some mark) x y own_x own_y h e has =
        run_up flow laws marks (segment_end places marks k - mark) mark (Some x) (Some y) own_x own_y
        (λ z is. record {
          state = y;
          is = refl;
          above = subst (λ (s : S). flow.Below s y) (some_injective x z is) h;
        }) e has
