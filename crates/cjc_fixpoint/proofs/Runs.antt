-- Marks, and the rows that kept rows stand for.
use Rattle.std.proofs.Common.{◌≡◌, ◌==◌, ◌<◌, ◌≤◌, ◌+◌, ◌-◌, ℕ, zero, suc, List, [], ◌∷◌, ◌++◌, Option, Some, None}
use Rattle.std.proofs.Common.{slice_get, get_or, length, filter_map, Contains, Result, Ok, Err, refl, sym, ◌∙◌, ap}
use Rattle.std.proofs.Common.{subst, inl, inr, arith, append_assoc, append-nil}
use Rattle.std.specs.List.{position_or_len}
use Rattle.std.specs.List.Sorted.{IsBinarySearchResult}
use Rattle.std.specs.Ordering.{nat_cmp}
use Rattle.std.proofs.lemmas.List.Sorted.{searched}
use Rattle.std.proofs.lemmas.Bool.Decides.{nat_tests}
use Rattle.std.proofs.lemmas.Bool.{cases_lt}
use Rattle.std.proofs.lemmas.List.{get_or_past}
use Rattle.std.proofs.lemmas.List.Sums.{position_or_len_is}
use Rattle.std.proofs.lemmas.List.Quantifiers.{position-Some}
use Rattle.std.proofs.lemmas.List.Elements.{Contains-append_left, Contains-append_right, filter_map-append}
use Rattle.std.proofs.lemmas.List.FromFn.{length-map-range_with_len, get_or-map-range_with_len}
use Rattle.std.proofs.lemmas.Option.{slice_get_within, slice_get-get_or, get_or_from_slice_get}
use Rattle.cjc_fixpoint.specs.declared.flow.Edge.{Edge}
use Rattle.cjc_fixpoint.specs.Dataflow.{Dataflow}
use Rattle.cjc_fixpoint.specs.Tables.{HasRow}
use Rattle.cjc_fixpoint.specs.Working.Edges.{contains_head, contains_tail}
use Rattle.cjc_fixpoint.specs.Kept.{merged, handed_more, handed, handed_on, IsAscending, AreMarks, mark_of, row_of}
use Rattle.cjc_fixpoint.specs.Kept.{full}
use Rattle.cjc_fixpoint.specs.Segments.{to_segment, run, segment_end, segment_edges}
use Rattle.cjc_fixpoint.specs.Working.HandedLaws.{OwnMaybe, picked, some_injective, not_some}
use Rattle.cjc_fixpoint.specs.Working.SegmentLaws.{contains_none}

-- ---- marks

-- a place with a mark stands at it
pub mark_is : (marks : List ℕ) (at k : ℕ) → mark_of marks at ≡ Some k → slice_get marks k ≡ Some at
mark_is marks at k is =
    let found = position-Some (λ mark. mark == at) marks k at is in
    let same : get_or marks k at ≡ at = grind (arith, nat_tests, found.1) in
    slice_get-get_or marks k at found.0 ∙ ap Some same

-- the place of a mark has that mark
pub is_mark : (marks : List ℕ) → IsAscending marks → (k at : ℕ) → slice_get marks k ≡ Some at
    → mark_of marks at ≡ Some k
is_mark marks ascending k at is =
    let lt = slice_get_within marks k at is in
    let here = get_or_from_slice_get marks k at at is in
    let found : position_or_len (λ mark. mark == at) marks ≡ k =
    position_or_len_is (λ mark. mark == at) marks k at (omega (arith, lt))
    (λ j less. let before = ascending j k (get_or marks j at) at (slice_get-get_or marks j at (omega (arith, less, lt)))
    is less in grind (arith, nat_tests, before))
    (λ lt. grind (arith, nat_tests, here)) in
    grind (arith, nat_tests, found, lt)

pub no_mark : (marks : List ℕ) → IsAscending marks → (k at : ℕ) → mark_of marks at ≡ None → slice_get marks k ≡ Some at
    → ⊥
no_mark marks ascending k at none is = not_some k (sym none ∙ is_mark marks ascending k at is)

-- a place that no mark is has none
pub none_is : (marks : List ℕ) (at : ℕ) → ((k : ℕ) → slice_get marks k ≡ Some at → ⊥) → mark_of marks at ≡ None
none_is marks at h = go (mark_of marks at) refl
  where
    go : (mark : Option ℕ) → mark_of marks at ≡ mark → mark ≡ None
    go None is = refl
    go (Some k) is = absurd (h k (mark_is marks at k is))

-- no mark is less than its number
pub mark_above : (marks : List ℕ) → IsAscending marks → (k x : ℕ) → slice_get marks k ≡ Some x → k ≤ x
mark_above marks ascending zero x is = omega arith
mark_above marks ascending (suc k) x is =
    let lt = slice_get_within marks (suc k) x is in
    let there = slice_get-get_or marks k 0 (omega (arith, lt)) in
    let rest = mark_above marks ascending k (get_or marks k 0) there in
    let less = ascending k (suc k) (get_or marks k 0) x there is (omega arith) in
    omega (arith, rest, less)

-- there are no more marks than places
pub few_marks : (places : ℕ) (marks : List ℕ) → AreMarks places marks → length marks ≤ places
few_marks places marks h = go (length marks) refl
  where
    go : (n : ℕ) → length marks ≡ n → n ≤ places
    go zero is = omega arith
    go (suc n) is =
        let there = slice_get-get_or marks n 0 (omega (arith, is)) in
        let above = mark_above marks h.ascending n (get_or marks n 0) there in
        let inside = h.inside n (get_or marks n 0) there in
        omega (arith, above, inside)

-- ---- a binary search

rising : (marks : List ℕ) → IsAscending marks → (i j : ℕ) → i ≤ j → j < length marks
    → get_or marks i 0 ≤ get_or marks j 0
rising marks ascending i j le lt = elim (cases_lt i j) [
  | inl less ↦ let up = ascending i j (get_or marks i 0) (get_or marks j 0) (slice_get-get_or marks i 0 (omega (
    arith,
    less,
    lt,
  ))) (slice_get-get_or marks j 0 lt) less in omega (arith, up)
  | inr same ↦ let e : i ≡ j = omega (arith, le, same) in rw e (omega arith)
]

pub mark_found : (marks : List ℕ) (at k : ℕ) (r : Result ℕ ℕ) → IsAscending marks
    → IsBinarySearchResult (λ y. nat_cmp y at) marks r → r ≡ Ok k → slice_get marks k ≡ Some at
mark_found marks at k r ascending search is =
    let found = rw is at (searched marks at r search (rising marks ascending)) in
    slice_get-get_or marks k 0 found.0 ∙ ap Some found.1

pub mark_missing : (marks : List ℕ) (at i : ℕ) (r : Result ℕ ℕ) → IsAscending marks
    → IsBinarySearchResult (λ y. nat_cmp y at) marks r → r ≡ Err i → mark_of marks at ≡ None
mark_missing marks at i r ascending search is =
    let found = rw is at (searched marks at r search (rising marks ascending)) in
    none_is marks at (λ k there.
    let lt = slice_get_within marks k at there in
    let here = get_or_from_slice_get marks k at 0 there in
    elim (cases_lt k i) [
      | inl less ↦ let before = found.1 k less in absurd (omega (arith, before, here))
      | inr past ↦ let behind = found.2 k past lt in absurd (omega (arith, behind, here))
    ])

-- a mark lies before the end of its segment, and the segment does not go past the places
pub before_end : (places : ℕ) (marks : List ℕ) → AreMarks places marks → (k at : ℕ) → slice_get marks k ≡ Some at
    → at < segment_end places marks k
before_end places marks h k at is =
    elim (cases_lt (suc k) (length marks)) [
      | inl more ↦ h.ascending k (suc k) at (get_or marks (suc k) places) is (slice_get-get_or marks (suc k) places
          more) (omega arith)
      | inr last ↦ rw (get_or_past marks (suc k) places last) (h.inside k at is)
    ]

-- where a segment goes on, the place behind has no mark
pub goes_on : (places : ℕ) (marks : List ℕ) (k at : ℕ) → at < segment_end places marks k → suc at < places
    → mark_of marks (suc at) ≡ None → AreMarks places marks → suc at < segment_end places marks k
goes_on places marks k at lt inside none h =
    elim (cases_lt (suc at) (segment_end places marks k)) [
      | inl more ↦ more
      | inr past ↦ elim (cases_lt (suc k) (length marks)) [
        | inl marked ↦
            let end : segment_end places marks k ≡ suc at = omega (arith, past, lt) in
            absurd (no_mark marks h.ascending (suc k) (suc at) none (slice_get-get_or marks (suc k) places marked
            ∙ ap Some end))
        | inr last ↦ let end = get_or_past marks (suc k) places last in absurd (omega (arith, end, past, inside))
      ]
    ]

-- ---- the rows that kept rows stand for

module _ {S : Type 0} (flow : Dataflow S) (marks : List ℕ) (rows : List (Option S)) where
  -- a place with a mark has the row of the mark
  pub row_at_mark : (at k : ℕ) → mark_of marks at ≡ Some k → row_of flow marks rows at ≡ get_or rows k None
  row_at_mark zero k is = rw is refl
  row_at_mark (suc at) k is = rw is refl

  pub row_off_mark : (at : ℕ) → mark_of marks (suc at) ≡ None → row_of flow marks rows (suc at)
      ≡ handed_on flow at (row_of flow marks rows at)
  row_off_mark at is = rw is refl

  pub full_at : (places at : ℕ) → at < places → slice_get (full flow places marks rows) at
      ≡ Some (row_of flow marks rows at)
  full_at places at lt =
      let is = get_or-map-range_with_len (row_of flow marks rows) 0 places at at None lt (omega arith) in
      slice_get-get_or (full flow places marks rows) at None (rw (length-map-range_with_len (row_of flow marks rows) 0
      places) lt) ∙ ap Some is

  pub full_inside : (places at : ℕ) (x : S) → HasRow (full flow places marks rows) at x → at < places
  full_inside places at x h = rw (length-map-range_with_len (row_of flow marks rows) 0 places) at
      (slice_get_within (full flow places marks rows) at (Some x) h)

  pub full_is : (places at : ℕ) (x : S) → HasRow (full flow places marks rows) at x → row_of flow marks rows at ≡ Some x
  full_is places at x h = some_injective (row_of flow marks rows at) (Some x)
      (sym (full_at places at (full_inside places at x h)) ∙ h)

  pub full_has : (places at : ℕ) (x : S) → at < places → row_of flow marks rows at ≡ Some x
      → HasRow (full flow places marks rows) at x
  full_has places at x lt is = full_at places at lt ∙ ap Some is

  pub full_sized : (places : ℕ) → length (full flow places marks rows) ≡ places
  full_sized places = length-map-range_with_len (row_of flow marks rows) 0 places

-- ---- runs

module _ {S : Type 0} (flow : Dataflow S) (marks : List ℕ) where
  pub run_none : (n at : ℕ) (e : Edge S) → Contains (run flow marks n at None) e → ⊥
  run_none zero at e has = contains_none e has
  run_none (suc n) at e has = contains_none e has

  -- what goes on belongs to the run
  run_tail_by : (n m at : ℕ) (row : Option S) → m ≡ suc n → (e : Edge S)
      → Contains (run flow marks n (suc at) (handed_on flow at row)) e → Contains (run flow marks m at row) e
  run_tail_by n m at None is e has = absurd (run_none n (suc at) e has)
  run_tail_by n m at (Some x) is e has = rw is (Contains-append_right (filter_map (to_segment marks) (flow.edges at x))
      (run flow marks n (suc at) (handed flow (suc at) (flow.edges at x))) e has)

  pub run_tail : (end at : ℕ) (row : Option S) → at < end → (e : Edge S)
      → Contains (run flow marks (end - suc at) (suc at) (handed_on flow at row)) e
      → Contains (run flow marks (end - at) at row) e
  run_tail end at row lt e has = run_tail_by (end - suc at) (end - at) at row (omega (arith, lt)) e has

  -- so does what leaves its first place
  run_head_by : (n m at : ℕ) (x : S) → m ≡ suc n → (e : Edge S)
      → Contains (filter_map (to_segment marks) (flow.edges at x)) e → Contains (run flow marks m at (Some x)) e
  run_head_by n m at x is e has = rw is (Contains-append_left (filter_map (to_segment marks) (flow.edges at x))
      (run flow marks n (suc at) (handed flow (suc at) (flow.edges at x))) e has)

  pub run_head : (end at : ℕ) (x : S) → at < end → (e : Edge S)
      → Contains (filter_map (to_segment marks) (flow.edges at x)) e → Contains (run flow marks (end - at) at (Some x))
      e
  run_head end at x lt e has = run_head_by (end - suc at) (end - at) at x (omega (arith, lt)) e has

  pub run_is_none : (n at : ℕ) → run flow marks n at None ≡ []
  run_is_none zero at = refl
  run_is_none (suc n) at = refl

  -- what a place adds to a run
  run_by : (n m at to : ℕ) (x : S) (row : Option S) → m ≡ suc n → to ≡ suc at
      → (0 < n → row ≡ handed flow to (flow.edges at x)) → filter_map (to_segment marks) (flow.edges at x)
      ++ run flow marks n to row ≡ run flow marks m at (Some x)
  run_by zero m at to x row is next h = rw is refl
  run_by (suc n) m at to x row is next h = let e = h (omega arith) in rw (e, is, next) refl

  pub run_next : (end at : ℕ) (x : S) (row : Option S) → at < end
      → (at + 1 < end → row ≡ handed flow (at + 1) (flow.edges at x)) → filter_map (to_segment marks) (flow.edges at x)
      ++ run flow marks (end - (at + 1)) (at + 1) row ≡ run flow marks (end - at) at (Some x)
  run_next end at x row lt h = run_by (end - (at + 1)) (end - at) at (at + 1) x row (omega (arith, lt)) (omega arith)
      (λ some. h (omega (arith, some)))

  -- the run that is left, after a place
  pub run_step : (out total : List (Edge S)) (end at : ℕ) (row : Option S) (x : S) (edges dealt : List (Edge S))
      (next : Option S) → at < end → row ≡ Some x → edges ≡ flow.edges at x → dealt ≡ out
      ++ filter_map (to_segment marks) edges → (at + 1 < end → next ≡ handed flow (at + 1) edges)
      → out ++ run flow marks (end - at) at row ≡ total → dealt ++ run flow marks (end - (at + 1)) (at + 1) next ≡ total
  run_step out total end at row x edges dealt next lt is_row is_edges is_dealt is_next h =
      let step = run_next end at x next lt (λ more. is_next more ∙ ap (handed flow (at + 1)) is_edges) in
      let split = append_assoc out (filter_map (to_segment marks) (flow.edges at x)) (run flow marks (end - (at + 1))
      (at + 1) next) in
      let is_out : dealt ≡ out ++ filter_map (to_segment marks) (flow.edges at x) = is_dealt
      ∙ ap (λ (es : List (Edge S)). out ++ filter_map (to_segment marks) es) is_edges in
      let whole : out ++ run flow marks (end - at) at (Some x) ≡ total = subst (λ (r : Option S). out
      ++ run flow marks (end - at) at r ≡ total) is_row h in
      ap (λ (es : List (Edge S)). es ++ run flow marks (end - (at + 1)) (at + 1) next) is_out ∙ split
      ∙ ap (λ (es : List (Edge S)). out ++ es) step ∙ whole

  pub run_over : (out total : List (Edge S)) (n at : ℕ) (row : Option S) → row ≡ None → out ++ run flow marks n at row
      ≡ total → out ≡ total
  run_over out total n at row is h =
      let whole : out ++ run flow marks n at None ≡ total = subst (λ (r : Option S). out ++ run flow marks n at r
      ≡ total) is h in
      let none = run_is_none n at in
      sym (append-nil out) ∙ ap (λ (es : List (Edge S)). out ++ es) (sym none) ∙ whole

-- ---- edges that are left

pub first_of : {X : Type 0} (P : X → Type 0) (left : List X) (x : X) (rest : List X) → left ≡ x ∷ rest
    → ((y : X) → Contains left y → P y) → P x
first_of P left x rest is h = h x (subst (λ (xs : List _). Contains xs x) (sym is) (contains_head x rest))

pub rest_of : {X : Type 0} (P : X → Type 0) (left : List X) (x : X) (rest : List X) → left ≡ x ∷ rest
    → ((y : X) → Contains left y → P y) → (y : X) → Contains rest y → P y
rest_of P left x rest is h y has = h y (subst (λ (xs : List _). Contains xs y) (sym is) (contains_tail x rest y has))

pub more_step : {S : Type 0} (flow : Dataflow S) (to : ℕ) (row next : Option S) (left : List (Edge S)) (e : Edge S)
    (rest : List (Edge S)) (total : Option S) → next ≡ merged flow row (picked to e) → left ≡ e ∷ rest
    → handed_more flow to row left ≡ total → handed_more flow to next rest ≡ total
more_step flow to row next left e rest total is_next is h =
    ap (λ (r : Option _). handed_more flow to r rest) is_next ∙ ap (handed_more flow to row) (sym is) ∙ h

pub dealt_step : {A B : Type 0} (h : A → Option B) (out dealt : List B) (left : List A) (x : A) (rest : List A)
    (total : List B) → dealt ≡ out ++ filter_map h (x ∷ []) → left ≡ x ∷ rest → out ++ filter_map h left ≡ total
    → dealt ++ filter_map h rest ≡ total
dealt_step h out dealt left x rest total is_dealt is e =
    ap (λ (ys : List _). ys ++ filter_map h rest) is_dealt ∙ append_assoc out (filter_map h (x ∷ []))
    (filter_map h rest)
    ∙ ap (λ (ys : List _). out ++ ys) (sym (filter_map-append h (x ∷ []) rest)) ∙ ap (λ (xs : List _). out
    ++ filter_map h xs) (sym is) ∙ e

pub own_of : {S : Type 0} (flow : Dataflow S) (row : Option S) (x : S) → row ≡ Some x → OwnMaybe flow row → flow.Own x
own_of flow row x is own = subst (λ (r : Option _). OwnMaybe flow r) is own

-- no place within a segment is marked
pub within_segment : (places : ℕ) (marks : List ℕ) → AreMarks places marks → (k start at : ℕ)
    → slice_get marks k ≡ Some start → start < at → at < segment_end places marks k → mark_of marks at ≡ None
within_segment places marks h k start at is after before = none_is marks at (λ j there. elim (cases_lt j k) [
  | inl less ↦ let up = h.ascending j k at start there is less in absurd (omega (arith, up, after))
  | inr more ↦ elim (cases_lt k j) [
    | inr same ↦
        let e : j ≡ k = omega (arith, more, same) in
        let there' : slice_get marks k ≡ Some at = subst (λ (i : ℕ). slice_get marks i ≡ Some at) e there in
        let one : start ≡ at = some_injective start at (sym is ∙ there') in
        absurd (omega (arith, one, after))
    | inl past ↦
        let lt = slice_get_within marks j at there in
        let next = slice_get-get_or marks (suc k) places (omega (arith, past, lt)) in
        elim (cases_lt (suc k) j) [
          | inl far ↦ let up = h.ascending (suc k) j (get_or marks (suc k) places) at next there far
              in absurd (omega (arith, up, before))
          | inr near ↦
              let e : j ≡ suc k = omega (arith, past, near) in
              let there' : slice_get marks (suc k) ≡ Some at = subst (λ (i : ℕ). slice_get marks i ≡ Some at) e there in
              let one : get_or marks (suc k) places ≡ at = some_injective (get_or marks (suc k) places) at (sym next
              ∙ there') in
              absurd (omega (arith, one, before))
        ]
  ]
])

-- the run of a segment
pub segment_run : {S : Type 0} (flow : Dataflow S) (places : ℕ) (marks : List ℕ) (k start end : ℕ) (state x : S)
    → slice_get marks k ≡ Some start → end ≡ segment_end places marks k → state ≡ x
    → run flow marks (end - start) start (Some state) ≡ segment_edges flow places marks k (slice_get marks k) x
segment_run flow places marks k start end state x is is_end is_state =
    ap (λ (n : ℕ). run flow marks (n - start) start (Some state)) is_end
    ∙ ap (λ (s : _). segment_edges flow places marks k (Some start) s) is_state
    ∙ ap (λ (m : Option ℕ). segment_edges flow places marks k m x) (sym is)
