-- The flow whose edges are gathered obeys the laws of flows and stays among its places.
use Rattle.std.proofs.Common.{◌≡◌, ◌<◌, ◌+◌, ℕ, zero, suc, List, [], ◌∷◌, Option, Some, None, option_map, Contains}
use Rattle.std.proofs.Common.{refl, sym, ◌∙◌, ap, subst, inl, inr, arith}
use Rattle.std.specs.List.{range_with_len}
use Rattle.std.proofs.lemmas.List.FromFn.{length-range_with_len, get_or-range_with_len}
use Rattle.std.proofs.lemmas.Option.{slice_get-get_or}
use Rattle.cjc_fixpoint.specs.declared.flow.Edge.{Edge}
use Rattle.cjc_fixpoint.specs.Dataflow.{Dataflow, IsLawful, AreBelow, StaysWithin}
use Rattle.cjc_fixpoint.specs.Kept.{handed}
use Rattle.cjc_fixpoint.specs.Segments.{mark_edge}
use Rattle.cjc_fixpoint.specs.Gathered.{gathered_at, gathered, gathering}
use Rattle.cjc_fixpoint.specs.Working.HandedLaws.{OwnMaybe, IsIn, some_injective, not_some, handed_own, handed_up}
use Rattle.cjc_fixpoint.specs.Working.SegmentLaws.{contains_kept, kept_from}

-- each place below `places` is one of the range
pub range_has : (places k : ℕ) → k < places → Contains (range_with_len 0 places) k
range_has places k lt = (k, rw (length-range_with_len 0 places) lt, get_or-range_with_len 0 places k k lt ∙ omega arith)

-- each place of the range is below `places`
pub range_inside : (places k : ℕ) → Contains (range_with_len 0 places) k → k < places
range_inside places k (j, lt, is) =
    let lt' : j < places = rw (length-range_with_len 0 places) at lt in
    let here = get_or-range_with_len 0 places j k lt' in
    omega (arith, here, is, lt')

-- where an edge comes from
pub record IsGathered {S : Type 0} (flow : Dataflow S) (places : ℕ) (es : List (Edge S)) (f : Edge S) : Type 0 where
  pub inside : f.to < places
  pub is : handed flow f.to es ≡ Some f.state

-- a gathered edge goes to a place below `places`, with all that the edges hand to it
pub gathered_from : {S : Type 0} (flow : Dataflow S) (places : ℕ) (es : List (Edge S)) (f : Edge S)
    → Contains (gathered flow places es) f → IsGathered flow places es f
gathered_from {S} flow places es f has =
    let m = kept_from (gathered_at flow es) (range_with_len 0 places) f has in
    go m.0 (range_inside places m.0 m.1) (handed flow m.0 es) refl m.2
  where
    go : (k : ℕ) → k < places → (o : Option S) → handed flow k es ≡ o → option_map (λ state. mark_edge state k) o
        ≡ Some f → IsGathered flow places es f
    go k lt None is h = absurd (not_some f h)
    go k lt (Some x) is h =
        let same : mark_edge x k ≡ f = some_injective (mark_edge x k) f h in
        subst (λ (e : Edge S). IsGathered flow places es e) same (record { inside = lt; is = is })

-- to each place below `places` that the edges hand a state one gathered edge goes, with this state
pub gathered_to : {S : Type 0} (flow : Dataflow S) (places : ℕ) (es : List (Edge S)) (k : ℕ) (x : S) → k < places
    → handed flow k es ≡ Some x → Contains (gathered flow places es) (mark_edge x k)
gathered_to flow places es k x lt is = contains_kept (gathered_at flow es) (range_with_len 0 places) k (mark_edge x k)
    (range_has places k lt) (ap (option_map (λ state. mark_edge state k)) is)

-- no gathered edge leaves the places
pub gathering_stays : {S : Type 0} (flow : Dataflow S) (places : ℕ) → StaysWithin (gathering flow places) places
gathering_stays flow places at x lt own e has = (gathered_from flow places (flow.edges at x) e has).inside

-- where a flow obeys the laws, the one with gathered edges does
pub gathering_laws : {S : Type 0} (flow : Dataflow S) → IsLawful flow → (places : ℕ) → IsLawful (gathering flow places)
gathering_laws {S} flow laws places = record {
  reflexive = laws.reflexive;
  transitive = laws.transitive;
  own_entry = laws.own_entry;
  own_edges = λ at x own e has.
      let from = gathered_from flow places (flow.edges at x) e has in
      subst (λ (o : Option S). OwnMaybe flow o) from.is (handed_own flow laws e.to (flow.edges at x)
      (laws.own_edges at x own));
  is_join = λ x y own_x own_y. let j = laws.is_join x y own_x own_y in record {
    own = j.own;
    above_left = j.above_left;
    above_right = j.above_right;
    least = j.least;
  };
  monotone = λ at x y own_x own_y h e has.
      let from = gathered_from flow places (flow.edges at x) e has in
      let top = handed_up flow laws e.to (flow.edges at x) (flow.edges at y) (laws.own_edges at x own_x)
      (laws.own_edges at y own_y) (laws.monotone at x y own_x own_y h) e.state from.is in (
        mark_edge top.state e.to,
        gathered_to flow places (flow.edges at y) e.to top.state from.inside top.is,
        refl,
        top.above,
      );
  rises = laws.rises;
  bounded = laws.bounded;
}
