-- What waits for places, as gathered edges.
use Rattle.std.proofs.Common.{Result, Ok, Err, Less, Equal, Greater, ◌≡◌, ◌==◌, ◌<◌, ◌≤◌, ◌+◌, ◌-◌, ℕ, zero, suc, ◌⊎◌}
use Rattle.std.proofs.Common.{◌||◌, not, is_some, Bool, true, false, cond, if◌then◌else◌, List, [], ◌∷◌, ◌++◌, Option}
use Rattle.std.proofs.Common.{Some, None, option_map, slice_get, length, map, filter_map, Contains, refl, sym, ◌∙◌, ap}
use Rattle.std.proofs.Common.{subst, inl, inr, arith}
use Rattle.std.specs.List.{range_with_len, cons_option}
use Rattle.std.specs.List.Sorted.{IsStrictlySortedBy}
use Rattle.std.specs.Map.{keys_of, lookup}
use Rattle.std.specs.Result.{IfOk}
use Rattle.std.specs.BTreeMap.{is_at}
use Rattle.std.specs.Ordering.{is_eq, nat_cmp}
use Rattle.std.specs.Cmp.{nat_cmp_is}
use Rattle.std.proofs.lemmas.Bool.{cases_lt}
use Rattle.std.proofs.lemmas.Cmp.{ranked}
use Rattle.std.proofs.lemmas.Option.{slice_get_within}
use Rattle.std.proofs.lemmas.Map.Keys.{sorted_tail, sorted_head}
use Rattle.std.proofs.lemmas.List.Elements.{filter_map-append}
use Rattle.cjc_fixpoint.specs.declared.flow.Edge.{Edge}
use Rattle.cjc_fixpoint.specs.Dataflow.{Dataflow, IsLawful}
use Rattle.cjc_fixpoint.specs.Working.Edges.{contains_cons}
use Rattle.cjc_fixpoint.specs.Kept.{merged, handed_more, handed, handed_on, mark_of}
use Rattle.cjc_fixpoint.specs.Segments.{mark_edge, to_segment, segment_end}
use Rattle.cjc_fixpoint.specs.Shortened.{asked, short_run, short_edges, shortened}
use Rattle.cjc_fixpoint.specs.Working.ShortenedLaws.{short_in}
use Rattle.cjc_fixpoint.specs.Gathered.{edge_of, gathered_at, gathered}
use Rattle.cjc_fixpoint.specs.Working.HandedLaws.{OwnMaybe, picked, not_some, handed_some, handed_own, more_own}
use Rattle.cjc_fixpoint.specs.Working.SegmentLaws.{contains_none, from_mark, run_within}

-- ---- what edges add to what waits

pub more_append : {S : Type 0} (flow : Dataflow S) (k : ℕ) (row : Option S) (xs ys : List (Edge S))
    → handed_more flow k row (xs ++ ys) ≡ handed_more flow k (handed_more flow k row xs) ys
more_append flow k row [] ys = refl
more_append flow k row (x ∷ xs) ys = more_append flow k (merged flow row (picked k x)) xs ys

-- of the edges that are left, the first is handed on
pub hand_step : {A S : Type 0} (flow : Dataflow S) (h : A → Option (Edge S)) (k : ℕ) (row next : Option S)
    (left : List A) (x : A) (rest : List A) (total : Option S) → next ≡ handed_more flow k row (filter_map h (x ∷ []))
    → left ≡ x ∷ rest → handed_more flow k row (filter_map h left) ≡ total → handed_more flow k next (filter_map h rest)
    ≡ total
hand_step flow h k row next left x rest total is_next is e =
    ap (λ (r : Option _). handed_more flow k r (filter_map h rest)) is_next
    ∙ sym (more_append flow k row (filter_map h (x ∷ [])) (filter_map h rest))
    ∙ ap (handed_more flow k row) (sym (filter_map-append h (x ∷ []) rest))
    ∙ ap (λ (xs : List _). handed_more flow k row (filter_map h xs)) (sym is) ∙ e

-- ---- shortened runs

module _ {S : Type 0} (flow : Dataflow S) (marks : List ℕ) (again : ℕ → Bool) where
  short_by : (n m at to : ℕ) (asks : Bool) (x : S) (row : Option S) → m ≡ suc n → to ≡ suc at
      → (0 < n → row ≡ handed flow to (flow.edges at x)) → asked flow marks (asks || is_some (mark_of marks to)) at x
      ++ short_run flow marks again n to (not (again to)) row ≡ short_run flow marks again m at asks (Some x)
  short_by zero m at to asks x row is next h = rw (is, next) refl
  short_by (suc n) m at to asks x row is next h = let e = h (omega arith) in rw (e, is, next) refl

  -- of the run that is left, the first place is handed on
  pub hand_run : (at : ℕ) (b : Bool) → b ≡ again (at + 1) → (k : ℕ) (had has total : Option S) (end : ℕ) (asks : Bool)
      (row : Option S) (x : S) (next : Option S) → at < end → row ≡ Some x
      → has ≡ handed_more flow k had (asked flow marks (asks || is_some (mark_of marks (at + 1))) at x)
      → (at + 1 < end → next ≡ handed flow (at + 1) (flow.edges at x))
      → handed_more flow k had (short_run flow marks again (end - at) at asks row) ≡ total
      → handed_more flow k has (short_run flow marks again (end - (at + 1)) (at + 1) (not b) next) ≡ total
  hand_run at b is_b k had has total end asks row x next lt is_row is_has is_next h =
      ap (λ (a : Bool). handed_more flow k has (short_run flow marks again (end - (at + 1)) (at + 1) (not a) next)) is_b
      ∙
      let rest : List (Edge S) = short_run flow marks again (end - (at + 1)) (at + 1) (not (again (at + 1))) next in
      let out : List (Edge S) = asked flow marks (asks || is_some (mark_of marks (at + 1))) at x in
      let step : out ++ rest ≡ short_run flow marks again (end - at) at asks (Some x) =
      short_by (end - (at + 1)) (end - at) at (at + 1) asks x next (omega (arith, lt)) (omega arith)
      (λ some. is_next (omega (arith, some))) in
      ap (λ (r : Option S). handed_more flow k r rest) is_has ∙ sym (more_append flow k had out rest)
      ∙ ap (handed_more flow k had) step
      ∙ ap (λ (r : Option S). handed_more flow k had (short_run flow marks again (end - at) at asks r)) (sym is_row)
      ∙ h

  short_none : (n at : ℕ) (asks : Bool) → short_run flow marks again n at asks None ≡ []
  short_none zero at asks = refl
  short_none (suc n) at asks = refl

  pub hand_over : (k : ℕ) (had total : Option S) (n at : ℕ) (asks : Bool) (row : Option S) → row ≡ None
      → handed_more flow k had (short_run flow marks again n at asks row) ≡ total → had ≡ total
  hand_over k had total n at asks row is h =
      ap (handed_more flow k had) (sym (short_none n at asks))
      ∙ ap (λ (r : Option S). handed_more flow k had (short_run flow marks again n at asks r)) (sym is) ∙ h

  pub short_segment : (places k start end : ℕ) (state x : S) → slice_get marks k ≡ Some start
      → end ≡ segment_end places marks k → state ≡ x → short_run flow marks again (end - start) start true (Some state)
      ≡ short_edges flow places marks again k (slice_get marks k) x
  short_segment places k start end state x is is_end is_state =
      ap (λ (n : ℕ). short_run flow marks again (n - start) start true (Some state)) is_end
      ∙ ap (λ (s : _). short_edges flow places marks again k (Some start) s) is_state
      ∙ ap (λ (m : Option ℕ). short_edges flow places marks again k m x) (sym is)

-- ---- entries in order

test_same : (k : ℕ) → is_at (nat_cmp k) k ≡ true
test_same k = ap is_eq (sym (nat_cmp_is k k Equal refl))

test_below : (k q : ℕ) → k < q → is_at (nat_cmp k) q ≡ false
test_below k q lt = ap is_eq (sym (nat_cmp_is k q Less lt))

test_above : (k q : ℕ) → q < k → is_at (nat_cmp k) q ≡ false
test_above k q lt = ap is_eq (sym (nat_cmp_is k q Greater lt))

-- the keys ascend, from a on
abbrev Climbs : {X : Type 0} → ℕ → List (ℕ × X) → Type 0
Climbs a [] = Unit {0}
Climbs a (p ∷ ps) = (a ≤ p.0) × Climbs (p.0 + 1) ps

climbs_from : {X : Type 0} (a : ℕ) (p : ℕ × X) (ps : List (ℕ × X)) → IsStrictlySortedBy nat_cmp (keys_of (p ∷ ps))
    → a ≤ p.0 → Climbs a (p ∷ ps)
climbs_from a p [] sorted le = (le, tt)
climbs_from a p (q ∷ qs) sorted le =
    let less = ranked p.0 q.0 Less (sym (sorted_head nat_cmp p.0 (keys_of (q ∷ qs)) sorted).0) in
    (le, climbs_from (p.0 + 1) q qs (sorted_tail nat_cmp p.0 (keys_of (q ∷ qs)) sorted) (omega (arith, less)))

climbs : {X : Type 0} (ps : List (ℕ × X)) → IsStrictlySortedBy nat_cmp (keys_of ps) → Climbs 0 ps
climbs [] sorted = tt
climbs (p ∷ ps) sorted = climbs_from 0 p ps sorted (omega arith)

none_below : {X : Type 0} (a : ℕ) (ps : List (ℕ × X)) → Climbs a ps → (k : ℕ) → k < a → lookup (is_at (nat_cmp k)) ps
    ≡ None
none_below a [] c k lt = refl
none_below a (p ∷ ps) c k lt =
    let le = c.0 in
    rw (test_below k p.0 (omega (arith, le, lt))) (none_below (p.0 + 1) ps c.1 k (omega (arith, le, lt)))

look_past : {X : Type 0} (p : ℕ × X) (ps : List (ℕ × X)) (k : ℕ) → p.0 < k → lookup (is_at (nat_cmp k)) (p ∷ ps)
    ≡ lookup (is_at (nat_cmp k)) ps
look_past p ps k lt = rw (test_above k p.0 lt) refl

look_here : {X : Type 0} (p : ℕ × X) (ps : List (ℕ × X)) → lookup (is_at (nat_cmp p.0)) (p ∷ ps) ≡ Some p.1
look_here p ps = rw (test_same p.0) refl

abbrev at_key : {S : Type 0} → (ℕ → Option S) → ℕ → Option (Edge S)
at_key f k = option_map (λ x. mark_edge x k) (f k)

-- entries in order are the values of all keys in turn
listed_is : {S : Type 0} (f : ℕ → Option S) (n a : ℕ) (ps : List (ℕ × S)) → Climbs a ps
    → ((k : ℕ) → a ≤ k → lookup (is_at (nat_cmp k)) ps ≡ f k) → ((k : ℕ) → a + n ≤ k → f k ≡ None)
    → map edge_of ps ≡ filter_map (at_key f) (range_with_len a n)
listed_is f zero a [] c h past = refl
listed_is f zero a (p ∷ ps) c h past =
    let le = c.0 in
    absurd (not_some p.1 (sym (past p.0 (omega (arith, le))) ∙ sym (h p.0 le) ∙ look_here p ps))
listed_is f (suc n) a [] c h past =
    let none : f a ≡ None = sym (h a (omega arith)) in
    rw none (listed_is f n (a + 1) [] tt (λ k le. h k (omega (arith, le))) (λ k le. past k (omega (arith, le))))
listed_is {S} f (suc n) a (p ∷ ps) c h past = go (listed_is f n (a + 1)) (cases_lt a p.0)
  where
    le : a ≤ p.0
    le = c.0

    go : ((qs : List (ℕ × S)) → Climbs (a + 1) qs → ((k : ℕ) → a + 1 ≤ k → lookup (is_at (nat_cmp k)) qs ≡ f k)
        → ((k : ℕ) → a + 1 + n ≤ k → f k ≡ None) → map edge_of qs ≡ filter_map (at_key f) (range_with_len (a + 1) n))
        → (a < p.0) ⊎ (p.0 ≤ a) → map edge_of (p ∷ ps) ≡ filter_map (at_key f) (range_with_len a (suc n))
    go more (inl less) =
        let none : f a ≡ None = sym (h a (omega arith)) ∙ none_below (a + 1) (p ∷ ps) (
          omega (arith, less),
          c.1,
        ) a (omega arith) in
        rw none (more (p ∷ ps) (omega (arith, less), c.1) (λ k up. h k (omega (arith, up)))
        (λ k up. past k (omega (arith, up))))
    go more (inr back) =
        let same : p.0 ≡ a = omega (arith, le, back) in
        let rest = more ps (subst (λ (i : ℕ). Climbs (i + 1) ps) same c.1)
        (λ k up. sym (look_past p ps k (omega (arith, up, same))) ∙ h k (omega (arith, up)))
        (λ k up. past k (omega (arith, up))) in
        let some : f a ≡ Some p.1 = subst (λ (i : ℕ). f i ≡ Some p.1) same (sym (h p.0 le) ∙ look_here p ps) in
        ap (λ (es : List (Edge S)). edge_of p ∷ es) rest ∙ ap (λ (i : ℕ). mark_edge p.1 i
        ∷ filter_map (at_key f) (range_with_len (a + 1) n)) same
        ∙ sym (ap (λ (o : Option S). cons_option (option_map (λ x. mark_edge x a) o) (filter_map (at_key f)
        (range_with_len (a + 1) n))) some)

-- what waits, in order, where just what the edges hand to each place waits for it
pub gathered_is : {S : Type 0} (flow : Dataflow S) (places : ℕ) (es : List (Edge S)) (ps : List (ℕ × S))
    → IsStrictlySortedBy nat_cmp (keys_of ps) → ((k : ℕ) → lookup (is_at (nat_cmp k)) ps ≡ handed flow k es)
    → ((e : Edge S) → Contains es e → e.to < places) → map edge_of ps ≡ gathered flow places es
gathered_is {S} flow places es ps sorted h inside = listed_is (λ k. handed flow k es) places 0 ps (climbs ps sorted)
    (λ k le. h k) (λ k le. go k le (handed flow k es) refl)
  where
    go : (k : ℕ) → 0 + places ≤ k → (o : Option S) → handed flow k es ≡ o → o ≡ None
    go k le None is = refl
    go k le (Some y) is =
        let source = handed_some flow k es y is in
        let lt = inside source.0 source.1 in
        let there = source.2 in
        absurd (omega (arith, le, lt, there))

pub gathered_run : {S : Type 0} (flow : Dataflow S) (marks : List ℕ) (again : ℕ → Bool) (n at : ℕ) (asks : Bool)
    (row : Option S) (ps : List (ℕ × S)) → IsStrictlySortedBy nat_cmp (keys_of ps)
    → ((k : ℕ) → lookup (is_at (nat_cmp k)) ps ≡ handed flow k (short_run flow marks again n at asks row))
    → map edge_of ps ≡ gathered flow (length marks) (short_run flow marks again n at asks row)
gathered_run flow marks again n at asks row ps sorted h = gathered_is flow (length marks) (short_run flow marks again n
    at asks row) ps sorted h (λ e has. run_within flow marks n at row e (short_in flow marks again n at asks row e has))

-- ---- the flow over segments joins as the flow does

merged_same : {S : Type 0} (flow : Dataflow S) (places : ℕ) (marks : List ℕ) (again : ℕ → Bool) (row more : Option S)
    → merged (shortened flow places marks again) row more ≡ merged flow row more
merged_same flow places marks again None more = refl
merged_same flow places marks again (Some x) None = refl
merged_same flow places marks again (Some x) (Some y) = refl

more_same : {S : Type 0} (flow : Dataflow S) (places : ℕ) (marks : List ℕ) (again : ℕ → Bool) (k : ℕ) (row : Option S)
    (es : List (Edge S)) → handed_more (shortened flow places marks again) k row es ≡ handed_more flow k row es
more_same flow places marks again k row [] = refl
more_same flow places marks again k row (e ∷ es) =
    more_same flow places marks again k (merged (shortened flow places marks again) row (picked k e)) es
    ∙ ap (λ (r : Option _). handed_more flow k r es) (merged_same flow places marks again row (picked k e))

filter_same : {A B : Type 0} (f g : A → Option B) (xs : List A) → ((x : A) → f x ≡ g x)
    → filter_map f xs ≡ filter_map g xs
filter_same f g [] h = refl
filter_same f g (x ∷ xs) h = ap (λ (o : Option _). cons_option o (filter_map f xs)) (h x)
    ∙ ap (cons_option (g x)) (filter_same f g xs h)

pub gathered_same : {S : Type 0} (flow : Dataflow S) (places : ℕ) (marks : List ℕ) (again : ℕ
    → Bool) (n : ℕ) (es : List (Edge S)) → gathered flow n es ≡ gathered (shortened flow places marks again) n es
gathered_same flow places marks again n es =
    filter_same (gathered_at flow es) (gathered_at (shortened flow places marks again) es) (range_with_len 0 n)
    (λ k. ap (option_map (λ x. mark_edge x k)) (sym (more_same flow places marks again k None es)))

-- ---- what waits is own

-- what edges to marks hand on is own
pub more_own_marks : {S : Type 0} (flow : Dataflow S) → IsLawful flow
    → (marks : List ℕ) (k : ℕ) (row : Option S) (es : List (Edge S)) → OwnMaybe flow row → ((e : Edge S) → Contains es e
    → flow.Own e.state) → OwnMaybe flow (handed_more flow k row (filter_map (to_segment marks) es))
more_own_marks flow laws marks k row es own own_es =
    more_own flow laws k row (filter_map (to_segment marks) es) own (λ f has. let from = from_mark marks es f has
    in subst flow.Own (sym from.state) (own_es from.edge from.has))

pub one_own : {S : Type 0} (flow : Dataflow S) → IsLawful flow → (marks : List ℕ) (k : ℕ) (row : Option S) (e : Edge S)
    → OwnMaybe flow row → flow.Own e.state
    → OwnMaybe flow (handed_more flow k row (filter_map (to_segment marks) (e ∷ [])))
one_own flow laws marks k row e own own_e = more_own_marks flow laws marks k row (e ∷ []) own
    (λ f has. elim (contains_cons e [] f has) [
      | inl same ↦ subst (λ (d : Edge _). flow.Own d.state) same own_e
      | inr none ↦ absurd (contains_none f none)
    ])

-- ---- behind the last mark

none_listed : {S : Type 0} (flow : Dataflow S) (n a : ℕ) → [] ≡ filter_map (gathered_at flow []) (range_with_len a n)
none_listed flow zero a = refl
none_listed flow (suc n) a = none_listed flow n (a + 1)

-- nothing is gathered from no segment
pub gathered_past : {S : Type 0} (flow : Dataflow S) (places : ℕ) (marks : List ℕ) (again : ℕ → Bool) (k : ℕ) (x : S)
    → length marks ≤ k → [] ≡ gathered (shortened flow places marks again) (length marks) (short_edges flow places marks
    again k (slice_get marks k) x)
gathered_past {S} flow places marks again k x past = go (slice_get marks k) refl
  where
    go : (mark : Option ℕ) → slice_get marks k ≡ mark → [] ≡ gathered (shortened flow places marks again) (length marks)
        (short_edges flow places marks again k mark x)
    go None is = none_listed (shortened flow places marks again) (length marks) 0
    go (Some m) is = let lt = slice_get_within marks k m is in absurd (omega (arith, lt, past))

-- ---- what a place that is asked hands on is own

pub asked_own : {S : Type 0} (flow : Dataflow S) → IsLawful flow → (marks : List ℕ) (k : ℕ) (row : Option S) (b : Bool)
    (at : ℕ) (x : S) → OwnMaybe flow row → flow.Own x → OwnMaybe flow (handed_more flow k row (asked flow marks b at x))
asked_own flow laws marks k row true at x own own_x = more_own_marks flow laws marks k row (flow.edges at x) own
    (laws.own_edges at x own_x)
asked_own flow laws marks k row false at x own own_x = own

-- what a place hands to the next is own
pub passed_own : {S E : Type 0} (flow : Dataflow S) → IsLawful flow → (at : ℕ) (x : S) → flow.Own x
    → (r : Result (Option S) E) → IfOk r (λ next. next ≡ handed_on flow at (Some x)) → IfOk r (OwnMaybe flow)
passed_own flow laws at x own (Ok next) is = subst (λ (o : Option _). OwnMaybe flow o) (sym is)
    (handed_own flow laws (suc at) (flow.edges at x) (laws.own_edges at x own))
passed_own flow laws at x own (Err e) is = tt
