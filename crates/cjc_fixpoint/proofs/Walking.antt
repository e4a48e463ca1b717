-- How a walk goes on.
use Rattle.std.proofs.Common.{◌≡◌, ◌<◌, ◌+◌, ℕ, suc, List, [], ◌∷◌, Option, Some, None, slice_get, get_or, length, refl}
use Rattle.std.proofs.Common.{sym, ◌∙◌, ap, subst, inl, inr, arith}
use Rattle.std.proofs.lemmas.Bool.{cases_lt}
use Rattle.std.proofs.lemmas.Option.{slice_get_within, slice_get-get_or, get_or_from_slice_get, slice_get_read}
use Rattle.cjc_fixpoint.specs.Dataflow.{Dataflow}
use Rattle.cjc_fixpoint.specs.Working.HandedLaws.{OwnMaybe, some_injective}
use Rattle.cjc_fixpoint.specs.Kept.{handed_on, mark_of, kept_or, row_of, full, StandsForLeast}
use Rattle.cjc_fixpoint.specs.Walks.{IsWalk}
use Rattle.cjc_fixpoint.proofs.Runs.{is_mark, no_mark, none_is, row_at_mark, full_at, full_has, full_sized}

-- a row that is read
pub read_row : {S : Type 0} (items rows : List (Option S)) (k : ℕ) (row : Option S) → items ≡ rows → k < length rows
    → row ≡ get_or items k row → row ≡ get_or rows k None
read_row items rows k row is lt read =
    let there : slice_get rows k ≡ Some row = slice_get_read rows (length rows) k row refl lt (read
    ∙ ap (λ (xs : List (Option _)). get_or xs k row) is) in
    sym (get_or_from_slice_get rows k row None there)

module _ {S : Type 0} (flow : Dataflow S) (places : ℕ) (marks : List ℕ) (rows : List (Option S)) where
  -- the rows of a least table are states of the flow
  pub row_own : StandsForLeast flow places marks rows → (at : ℕ) → at < places → (row : Option S)
      → row_of flow marks rows at ≡ row → OwnMaybe flow row
  row_own h at lt None is = tt
  row_own h at lt (Some x) is = h.least.closed.own at x (full_has flow marks rows places at x lt is)

  pub inside : (at : ℕ) → at < length (full flow places marks rows) → at < places
  inside at lt = rw (full_sized flow marks rows places) at lt

  -- a walk that is over
  pub over : StandsForLeast flow places marks rows → (n : ℕ) (rest : Option S) → n ≡ length marks
      → IsWalk flow places marks rows places n rest
  over h n rest is = record {
    stands = h;
    within = omega arith;
    before = λ k x there less. h.marked.inside k x there;
    behind = λ k x there more. let lt = slice_get_within marks k x there in absurd (omega (arith, lt, more, is));
    here = λ lt. absurd (omega (arith, lt));
  }

  module _ (at mark : ℕ) (handed : Option S) (h : IsWalk flow places marks rows at mark handed) where
    -- the row of a marked place
    pub kept_row : slice_get marks mark ≡ Some at → row_of flow marks rows at ≡ get_or rows mark None
    kept_row is = row_at_mark flow marks rows at mark (is_mark marks h.stands.marked.ascending mark at is)

    pub unmarked : (slice_get marks mark ≡ Some at → ⊥) → mark_of marks at ≡ None
    unmarked not = none_is marks at (λ k there. elim (cases_lt k mark) [
      | inl less ↦ let up = h.before k at there less in absurd (omega (arith, up))
      | inr more ↦ elim (cases_lt mark k) [
        | inr same ↦
            let e : k ≡ mark = omega (arith, more, same) in
            absurd (not (subst (λ (i : ℕ). slice_get marks i ≡ Some at) e there))
        | inl past ↦
            let lt = slice_get_within marks k at there in
            let first = slice_get-get_or marks mark 0 (omega (arith, past, lt)) in
            let low = h.behind mark (get_or marks mark 0) first (omega arith) in
            let up = h.stands.marked.ascending mark k (get_or marks mark 0) at first there past in
            absurd (omega (arith, low, up))
      ]
    ])

    -- the row of a place without a mark
    pub handed_row : (slice_get marks mark ≡ Some at → ⊥) → at < places → row_of flow marks rows at ≡ handed
    handed_row not lt = h.here lt ∙ ap (λ (m : Option ℕ). kept_or rows m handed) (unmarked not)

    here_next : (row next : Option S) → row ≡ row_of flow marks rows at
        → (at + 1 < places → mark_of marks (at + 1) ≡ None → next ≡ handed_on flow at row) → at + 1 < places
        → row_of flow marks rows (at + 1) ≡ kept_or rows (mark_of marks (at + 1)) next
    here_next row next is_row is_next lt = go (at + 1) (omega arith) (λ none. is_next lt none
        ∙ ap (handed_on flow at) is_row)
      where
        by : (m : Option ℕ) → (m ≡ None → next ≡ handed_on flow at (row_of flow marks rows at))
            → kept_or rows m (handed_on flow at (row_of flow marks rows at)) ≡ kept_or rows m next
        by None e = sym (e refl)
        by (Some k) e = refl

        go : (to : ℕ) → to ≡ suc at → (mark_of marks to ≡ None → next ≡ handed_on flow at (row_of flow marks rows at))
            → row_of flow marks rows to ≡ kept_or rows (mark_of marks to) next
        go to e is = subst (λ (i : ℕ). (mark_of marks i ≡ None → next ≡ handed_on flow at (row_of flow marks rows at))
            → row_of flow marks rows i ≡ kept_or rows (mark_of marks i) next) (sym e) (by (mark_of marks (suc at))) is

    pub after_mark : (row next : Option S) → at < places → slice_get marks mark ≡ Some at → row ≡ get_or rows mark None
        → (at + 1 < places → mark_of marks (at + 1) ≡ None → next ≡ handed_on flow at row)
        → IsWalk flow places marks rows (at + 1) (mark + 1) next
    after_mark row next lt is is_row is_next = record {
      stands = h.stands;
      within = omega (arith, lt);
      before = λ k x there less. elim (cases_lt k mark) [
        | inl low ↦ let up = h.before k x there low in omega (arith, up)
        | inr last ↦
            let e : k ≡ mark = omega (arith, less, last) in
            let same : at ≡ x = some_injective at x (sym is ∙ subst (λ (i : ℕ). slice_get marks i ≡ Some x) e there) in
            omega (arith, same)
      ];
      behind = λ k x there more. let up = h.stands.marked.ascending mark k at x is there (omega (arith, more))
          in omega (arith, up);
      here = here_next row next (is_row ∙ sym (kept_row is)) is_next;
    }

    pub after_unmarked : (next : Option S) → at < places → (slice_get marks mark ≡ Some at → ⊥)
        → (at + 1 < places → mark_of marks (at + 1) ≡ None → next ≡ handed_on flow at handed)
        → IsWalk flow places marks rows (at + 1) mark next
    after_unmarked next lt not is_next = record {
      stands = h.stands;
      within = omega (arith, lt);
      before = λ k x there less. let up = h.before k x there less in omega (arith, up);
      behind = λ k x there more. elim (cases_lt at x) [
        | inl up ↦ omega (arith, up)
        | inr down ↦
            let up = h.behind k x there more in
            let same : x ≡ at = omega (arith, up, down) in
            absurd (no_mark marks h.stands.marked.ascending k at (unmarked not) (there ∙ ap Some same))
      ];
      here = here_next handed next (sym (handed_row not lt)) is_next;
    }

    pub given : (row : Option S) → at < places → row ≡ row_of flow marks rows at
        → slice_get (full flow places marks rows) at ≡ Some row
    given row lt is = full_at flow marks rows places at lt ∙ ap Some (sym is)

-- ---- one table

-- a kept row is the row of its place
pub kept_in_full : {S : Type 0} (flow : Dataflow S) (places : ℕ) (marks : List ℕ) (rows : List (Option S))
    → StandsForLeast flow places marks rows → (k at : ℕ) → slice_get marks k ≡ Some at
    → slice_get (full flow places marks rows) at ≡ slice_get rows k
kept_in_full flow places marks rows h k at is =
    let lt = slice_get_within marks k at is in
    let sized = h.sized in
    full_at flow marks rows places at (h.marked.inside k at is)
    ∙ ap Some (row_at_mark flow marks rows at k (is_mark marks h.marked.ascending k at is))
    ∙ sym (slice_get-get_or rows k None (omega (arith, lt, sized)))

pub same_rows : {X : Type 0} (d : X) (xs ys : List X) → length xs ≡ length ys → ((k : ℕ) → k < length xs
    → slice_get xs k ≡ slice_get ys k) → xs ≡ ys
same_rows d [] [] sized h = refl
same_rows d [] (y ∷ ys) sized h = absurd (omega (arith, sized))
same_rows d (x ∷ xs) [] sized h = absurd (omega (arith, sized))
same_rows d (x ∷ xs) (y ∷ ys) sized h =
    let first : x ≡ y = some_injective x y (h 0 (omega arith)) in
    let rest : xs ≡ ys = same_rows d xs ys (omega (arith, sized)) (λ k lt. h (suc k) (omega (arith, lt))) in
    cc

-- marks and the table that is stood for determine the kept rows
pub kept_same : {S : Type 0} (flow : Dataflow S) (places : ℕ) (marks : List ℕ) (rows others : List (Option S))
    → StandsForLeast flow places marks rows → StandsForLeast flow places marks others → full flow places marks rows
    ≡ full flow places marks others → rows ≡ others
kept_same flow places marks rows others h k same =
    same_rows None rows others (h.sized ∙ sym k.sized) (λ i lt.
    let sized = h.sized in
    let is = slice_get-get_or marks i 0 (omega (arith, lt, sized)) in
    sym (kept_in_full flow places marks rows h i (get_or marks i 0) is)
    ∙ ap (λ (all : List (Option _)). slice_get all (get_or marks i 0)) same ∙ kept_in_full flow places marks others
    k i (get_or marks i 0) is)
