-- Every flow that keeps the laws has a least closed table: rows rise, one after the other, until each covers what comes
-- to it.
use Rattle.std.proofs.Common.{◌≡◌, ℕ, zero, suc, ◌+◌, ◌*◌, ◌<◌, ◌≤◌, refl, sym, ap, subst, ◌∙◌, arith, Bool, true}
use Rattle.std.proofs.Common.{false, List, [], ◌∷◌, length, inl, inr, ⊎_elim}
use Rattle.std.specs.Prelude.{◌⊎◌, Option, Some, None, slice_get, nat_le, nat_lt, not, ◌&&◌, if◌then◌else◌}
use Rattle.std.specs.List.{Contains}
use Rattle.std.proofs.lemmas.Bool.{leb-true, leb-false, ltb-true, ltb-false}
use Rattle.cjc_fixpoint.specs.declared.flow.Edge.{Edge}
use Rattle.cjc_fixpoint.specs.Dataflow.{Dataflow, IsLawful, StaysWithin}
use Rattle.cjc_fixpoint.specs.Tables.{Covers, HasRow, IsBelow, IsClosed, IsLeastClosed}
use Rattle.cjc_bytes.proofs.Gets.{get_below, get_inside}
use Rattle.cjc_bytes.proofs.Plain.{same_some}

-- ---- lists

abbrev set_at : {A : Type 0} → ℕ → A → List A → List A
set_at i y [] = []
set_at zero y (x ∷ xs) = y ∷ xs
set_at (suc i) y (x ∷ xs) = x ∷ set_at i y xs

set_length : {A : Type 0} (i : ℕ) (y : A) (xs : List A) → length (set_at i y xs) ≡ length xs
set_length i y [] = refl
set_length zero y (x ∷ xs) = refl
set_length (suc i) y (x ∷ xs) = ap suc (set_length i y xs)

set_here : {A : Type 0} (i : ℕ) (y : A) (xs : List A) → i < length xs → slice_get (set_at i y xs) i ≡ Some y
set_here i y [] lt = absurd (omega (arith, lt))
set_here zero y (x ∷ xs) lt = refl
set_here (suc i) y (x ∷ xs) lt = set_here i y xs (omega (arith, lt))

-- what stands at a place after one is set: what was set, or what was there
set_either : {A : Type 0} (i j : ℕ) (y z : A) (xs : List A) → slice_get (set_at i y xs) j ≡ Some z
    → (slice_get xs j ≡ Some z) ⊎ ((j ≡ i) × (z ≡ y))
set_either i j y z [] e = absurd cc
set_either zero zero y z (x ∷ xs) e = inr (refl, cc)
set_either zero (suc j) y z (x ∷ xs) e = inl e
set_either (suc i) zero y z (x ∷ xs) e = inl e
set_either (suc i) (suc j) y z (x ∷ xs) e = ⊎_elim (λ a. inl a) (λ b. inr (ap suc b.0, b.1)) (set_either i j y z xs e)

module _ {State : Type 0} (flow : Dataflow State) (places : ℕ) (lawful : IsLawful flow) (stays : StaysWithin flow
    places) where
  abbrev Rows : Type 0
  Rows = List (Option State)

  -- ---- one row

  abbrev raised : Option State → State → State
  raised None x = x
  raised (Some r) x = flow.join r x

  -- whether the row is above the state: its rank does not rise
  abbrev is_covered : Option (Option State) → State → Bool
  is_covered (Some (Some r)) x = nat_le (flow.rank (flow.join r x)) (flow.rank r)
  is_covered _ x = false

  abbrev row_at : Rows → ℕ → Option State
  row_at [] i = None
  row_at (r ∷ rows) zero = r
  row_at (r ∷ rows) (suc i) = row_at rows i

  row_there : (rows : Rows) (i : ℕ) (r : Option State) → slice_get rows i ≡ Some r → row_at rows i ≡ r
  row_there [] i r e = absurd cc
  row_there (x ∷ rows) zero r e = cc
  row_there (x ∷ rows) (suc i) r e = row_there rows i r e

  abbrev put : Rows → Edge State → Rows
  put rows e = set_at e.to (Some (raised (row_at rows e.to) e.state)) rows

  -- ---- how far a table has risen

  abbrev size : Option State → ℕ
  size None = 0
  size (Some x) = suc (flow.rank x)

  abbrev total : Rows → ℕ
  total [] = 0
  total (r ∷ rows) = size r + total rows

  total_set : (i : ℕ) (y : Option State) (rows : Rows) → i < length rows
      → total (set_at i y rows) + size (row_at rows i) ≡ total rows + size y
  total_set i y [] lt = absurd (omega (arith, lt))
  total_set zero y (r ∷ rows) lt = omega arith
  total_set (suc i) y (r ∷ rows) lt = let h = total_set i y rows (omega (arith, lt)) in omega (arith, h)

  record IsValid (rows : Rows) : Type 0 where
    sized : length rows ≡ places
    own : (at : ℕ) (x : State) → HasRow rows at x → flow.Own x

  total_bounded : (rows : Rows) → ((at : ℕ) (x : State) → HasRow rows at x → flow.Own x)
      → total rows ≤ length rows * suc flow.height
  total_bounded [] own = omega arith
  total_bounded (r ∷ rows) own =
      let rest = total_bounded rows (λ at x e. own (suc at) x e) in
      let here = one r (λ x e. own 0 x (ap Some e)) in
      let n = length rows in
      let split : suc n * suc flow.height ≡ suc flow.height + n * suc flow.height = by n flow.height in
      omega (arith, rest, here, split)
    where
      by : (n h : ℕ) → suc n * suc h ≡ suc h + n * suc h
      by n h = grind arith

      one : (r : Option State) → ((x : State) → r ≡ Some x → flow.Own x) → size r ≤ suc flow.height
      one None own = omega arith
      one (Some x) own = let le = lawful.bounded x (own x refl) in omega (arith, le)

  -- ---- what is demanded of a table

  abbrev first_edge : Edge State
  first_edge = record { to = 0; state = flow.entry }

  data Demanded (rows : Rows) (e : Edge State) : Type 0 where
    at_entry : 0 < places → first_edge ≡ e → Demanded rows e
    by_step : (k : ℕ) (x : State) → HasRow rows k x → Contains (flow.edges k x) e → Demanded rows e

  abbrev is_met : Rows → Edge State → Bool
  is_met rows e = is_covered (slice_get rows e.to) e.state

  -- the first that is not met
  abbrev open_in : Rows → List (Edge State) → Option (Edge State)
  open_in rows [] = None
  open_in rows (e ∷ es) = if is_met rows e then open_in rows es else Some e

  abbrev or_else : Option (Edge State) → Option (Edge State) → Option (Edge State)
  or_else (Some e) o = Some e
  or_else None o = o

  abbrev open_of : Rows → ℕ → Option State → Option (Edge State)
  open_of rows at None = None
  open_of rows at (Some x) = open_in rows (flow.edges at x)

  abbrev open_from : Rows → ℕ → Rows → Option (Edge State)
  open_from rows at [] = None
  open_from rows at (r ∷ rest) = or_else (open_of rows at r) (open_from rows (at + 1) rest)

  abbrev unmet : Rows → Option (Edge State)
  unmet rows = if nat_lt 0 places && not (is_met rows first_edge) then Some first_edge else open_from rows 0 rows

  found_in : (rows : Rows) (es : List (Edge State)) (e : Edge State) → open_in rows es ≡ Some e → Contains es e
      × (is_met rows e ≡ false)
  found_in rows [] e h = absurd cc
  found_in rows (d ∷ es) e h = by (is_met rows d) refl h (found_in rows es e)
    where
      by : (b : Bool) → is_met rows d ≡ b → (if b then open_in rows es else Some d) ≡ Some e → (open_in rows es ≡ Some e
          → Contains es e × (is_met rows e ≡ false)) → Contains (d ∷ es) e × (is_met rows e ≡ false)
      by true f h rest = let r = rest h in let c = r.0 in ((suc c.0, (let lt = c.1 in omega (arith, lt)), c.2), r.1)
      by false f h rest = let same : d ≡ e = cc in ((0, omega arith, same), ap (is_met rows) (sym same) ∙ f)

  none_in : (rows : Rows) (es : List (Edge State)) (e : Edge State) → open_in rows es ≡ None → Contains es e
      → is_met rows e ≡ true
  none_in rows [] e h (n, lt, same) = absurd (omega (arith, lt))
  none_in rows (d ∷ es) e h (zero, lt, same) = by (is_met rows d) refl h
    where
      by : (b : Bool) → is_met rows d ≡ b → (if b then open_in rows es else Some d) ≡ None → is_met rows e ≡ true
      by true f h = ap (is_met rows) (sym same) ∙ f
      by false f h = absurd cc
  none_in rows (d ∷ es) e h (suc n, lt, same) = by (is_met rows d) h (λ k. none_in rows es e k (
    n,
    omega (arith, lt),
    same,
  ))
    where
      by : (b : Bool) → (if b then open_in rows es else Some d) ≡ None → (open_in rows es ≡ None → is_met rows e ≡ true)
          → is_met rows e ≡ true
      by true h rest = rest h
      by false h rest = absurd cc

  found_from : (rows : Rows) (at : ℕ) (rest : Rows) (e : Edge State) → open_from rows at rest ≡ Some e → (k : ℕ)
      × (x : State) × HasRow rest k x × Contains (flow.edges (at + k) x) e × (is_met rows e ≡ false)
  found_from rows at [] e h = absurd cc
  found_from rows at (None ∷ rest) e h =
      let r = found_from rows (at + 1) rest e h in
      let k = r.0 in
      let same : at + 1 + k ≡ at + suc k = omega arith in
      (suc r.0, r.1, r.2, subst (λ n. Contains (flow.edges n r.1) e) same r.3, r.4)
  found_from rows at (Some x ∷ rest) e h = by (open_in rows (flow.edges at x)) refl h (found_from rows (at + 1) rest e)
    where
      by : (o : Option (Edge State)) → open_in rows (flow.edges at x) ≡ o → or_else o (open_from rows (at + 1) rest)
          ≡ Some e → (open_from rows (at + 1) rest ≡ Some e → (k : ℕ) × (y : State) × HasRow rest k y
          × Contains (flow.edges (at + 1 + k) y) e × (is_met rows e ≡ false)) → (k : ℕ) × (y : State)
          × HasRow (Some x ∷ rest) k y × Contains (flow.edges (at + k) y) e × (is_met rows e ≡ false)
      by (Some d) f h later = let r = found_in rows (flow.edges at x) e (f ∙ h) in let z : at ≡ at + 0 = omega arith
          in (0, x, refl, subst (λ n. Contains (flow.edges n x) e) z r.0, r.1)
      by None f h later =
          let r = later h in
          let k = r.0 in
          let same : at + 1 + k ≡ at + suc k = omega arith in
          (suc r.0, r.1, r.2, subst (λ n. Contains (flow.edges n r.1) e) same r.3, r.4)

  none_from : (rows : Rows) (at : ℕ) (rest : Rows) (k : ℕ) (x : State) (e : Edge State) → open_from rows at rest ≡ None
      → HasRow rest k x → Contains (flow.edges (at + k) x) e → is_met rows e ≡ true
  none_from rows at [] k x e h row c = absurd cc
  none_from rows at (r ∷ rest) zero x e h row c = by (open_of rows at r) refl h
    where
      z : at + 0 ≡ at
      z = omega arith

      by : (o : Option (Edge State)) → open_of rows at r ≡ o → or_else o (open_from rows (at + 1) rest) ≡ None
          → is_met rows e ≡ true
      by (Some d) f h = absurd cc
      by None f h = none_in rows (flow.edges at x) e (ap (open_of rows at) (sym (same_some row))
          ∙ f) (subst (λ n. Contains (flow.edges n x) e) z c)
  none_from rows at (r ∷ rest) (suc k) x e h row c =
      let same : at + suc k ≡ at + 1 + k = omega arith in
      by (open_of rows at r) h (λ g. none_from rows (at + 1) rest k x e g row (subst (λ n. Contains (flow.edges n x) e)
      same c))
    where
      by : (o : Option (Edge State)) → or_else o (open_from rows (at + 1) rest) ≡ None
          → (open_from rows (at + 1) rest ≡ None → is_met rows e ≡ true) → is_met rows e ≡ true
      by (Some d) h later = absurd cc
      by None h later = later h

  opened : (rows : Rows) (e : Edge State) → unmet rows ≡ Some e → Demanded rows e × (is_met rows e ≡ false)
  opened rows e h = by (nat_lt 0 places) (is_met rows first_edge) refl refl h
    where
      by : (a b : Bool) → nat_lt 0 places ≡ a → is_met rows first_edge ≡ b → (if a && not b then Some first_edge
          else open_from rows 0 rows) ≡ Some e → Demanded rows e × (is_met rows e ≡ false)
      by true false f g h = let same : first_edge ≡ e = cc in (
        at_entry (ltb-true 0 places f) same,
        ap (is_met rows) (sym same) ∙ g,
      )
      by true true f g h = later h
        where
          later : open_from rows 0 rows ≡ Some e → Demanded rows e × (is_met rows e ≡ false)
          later h = let r = found_from rows 0 rows e h in let k = r.0 in let z : 0 + k ≡ k = omega arith
              in (by_step r.0 r.1 r.2 (subst (λ n. Contains (flow.edges n r.1) e) z r.3), r.4)
      by false b f g h = let r = found_from rows 0 rows e h in let k = r.0 in let z : 0 + k ≡ k = omega arith
          in (by_step r.0 r.1 r.2 (subst (λ n. Contains (flow.edges n r.1) e) z r.3), r.4)

  settled : (rows : Rows) (e : Edge State) → unmet rows ≡ None → Demanded rows e → is_met rows e ≡ true
  settled rows e h demanded = by (nat_lt 0 places) (is_met rows first_edge) refl refl h demanded
    where
      step : (k : ℕ) (x : State) → open_from rows 0 rows ≡ None → HasRow rows k x → Contains (flow.edges k x) e
          → is_met rows e ≡ true
      step k x h row c = let z : k ≡ 0 + k = omega arith
          in none_from rows 0 rows k x e h row (subst (λ n. Contains (flow.edges n x) e) z c)

      by : (a b : Bool) → nat_lt 0 places ≡ a → is_met rows first_edge ≡ b → (if a && not b then Some first_edge
          else open_from rows 0 rows) ≡ None → Demanded rows e → is_met rows e ≡ true
      by true false f g h d = absurd cc
      by true true f g h (at_entry lt same) = ap (is_met rows) (sym same) ∙ g
      by true true f g h (by_step k x row c) = step k x h row c
      by false b f g h (at_entry lt same) = let le = ltb-false 0 places f in absurd (omega (arith, lt, le))
      by false b f g h (by_step k x row c) = step k x h row c

  -- ---- rows rise

  record IsRising (rows : Rows) : Type 0 where
    valid : IsValid rows
    below : (others : Rows) → IsClosed flow places others → IsBelow flow rows others

  -- what is demanded is covered by every closed table above
  demand_covered : (rows : Rows) → IsRising rows → (others : Rows) → IsClosed flow places others → (e : Edge State)
      → Demanded rows e → Covers flow others e.to e.state
  demand_covered rows is others closed e (at_entry lt same) =
      subst (λ (d : Edge State). Covers flow others d.to d.state) same (closed.entry lt)
  demand_covered rows is others closed e (by_step k x row c) =
      let v = is.valid in
      let own = v.own k x row in
      let above = is.below others closed k x row in
      let y_own = closed.own k above.row above.is_row in
      let f = lawful.monotone k x above.row own y_own above.above e c in
      let g = closed.steps k above.row above.is_row f.0 f.1 in
      let e_own = lawful.own_edges k x own e c in
      let f_own = lawful.own_edges k above.row y_own f.0 f.1 in
      let z_own = closed.own (let d = f.0 in d.to) g.row g.is_row in
      subst (λ n. Covers flow others n e.state) f.2 (record {
        row = g.row;
        is_row = g.is_row;
        above = lawful.transitive e.state (let d = f.0 in d.state) g.row e_own f_own z_own f.3 g.above;
      })

  -- what a demand is, beside other tables
  demand_own : (rows : Rows) → IsValid rows → (e : Edge State) → Demanded rows e → flow.Own e.state × (e.to < places)
  demand_own rows v e (at_entry lt same) = (
    subst (λ (d : Edge State). flow.Own d.state) same lawful.own_entry,
    subst (λ (d : Edge State). d.to < places) same lt,
  )
  demand_own rows v e (by_step k x row c) =
      let own = v.own k x row in
      let lt = get_below rows k (Some x) row in
      let sized = v.sized in
      (lawful.own_edges k x own e c, stays k x (omega (arith, lt, sized)) own e c)

  raised_own : (rows : Rows) → IsValid rows → (i : ℕ) (x : State) → flow.Own x → i < places
      → flow.Own (raised (row_at rows i) x)
  raised_own rows v i x own lt =
      let sized = v.sized in
      let r = get_inside rows i (omega (arith, lt, sized)) in
      subst (λ o. flow.Own (raised o x)) (sym (row_there rows i r.0 r.1)) (by r.0 r.1)
    where
      by : (o : Option State) → slice_get rows i ≡ Some o → flow.Own (raised o x)
      by None e = own
      by (Some r) e = (lawful.is_join r x (v.own i r e) own).own

  put_rises : (rows : Rows) → IsRising rows → (e : Edge State) → Demanded rows e → IsRising (put rows e)
  put_rises rows is e demanded =
      let v = is.valid in
      let mine = demand_own rows v e demanded in
      let new = raised_own rows v e.to e.state mine.0 mine.1 in
      record {
        valid = record {
          sized = set_length e.to (Some (raised (row_at rows e.to) e.state)) rows ∙ v.sized;
          own = λ at x row. ⊎_elim (λ old. v.own at x old) (λ set. subst flow.Own (sym (same_some set.1)) new)
              (set_either e.to at (Some (raised (row_at rows e.to) e.state)) (Some x) rows row);
        };
        below = λ others closed at x row. ⊎_elim
            (λ old. is.below others closed at x old)
            (λ set. subst (λ y. Covers flow others at y) (sym (same_some set.1))
            (subst (λ n. Covers flow others n (raised (row_at rows e.to) e.state)) (sym set.0)
            (under others closed (demand_covered rows is others closed e demanded))))
            (set_either e.to at (Some (raised (row_at rows e.to) e.state)) (Some x) rows row);
      }
    where
      under : (others : Rows) → IsClosed flow places others → Covers flow others e.to e.state
          → Covers flow others e.to (raised (row_at rows e.to) e.state)
      under others closed c =
          let v = is.valid in
          let mine = demand_own rows v e demanded in
          let lt = mine.1 in
          let sized = v.sized in
          let r = get_inside rows e.to (omega (arith, lt, sized)) in
          subst (λ o. Covers flow others e.to (raised o e.state)) (sym (row_there rows e.to r.0 r.1)) (by r.0 r.1)
        where
          by : (o : Option State) → slice_get rows e.to ≡ Some o → Covers flow others e.to (raised o e.state)
          by None f = c
          by (Some r) f =
              let v = is.valid in
              let own = v.own e.to r f in
              let d = is.below others closed e.to r f in
              let same : d.row ≡ c.row = same_some (same_some (sym d.is_row ∙ c.is_row)) in
              let z_own = closed.own e.to c.row c.is_row in
              record {
                row = c.row;
                is_row = c.is_row;
                above = (lawful.is_join r e.state own (demand_own rows v e demanded).0).least c.row z_own
                    (subst (λ y. flow.Below r y) same d.above) c.above;
              }

  put_higher : (rows : Rows) → IsValid rows → (e : Edge State) → e.to < places → is_met rows e ≡ false
      → total rows < total (put rows e)
  put_higher rows v e lt open_one =
      let sized = v.sized in
      let inside : e.to < length rows = omega (arith, lt, sized) in
      let r = get_inside rows e.to inside in
      let at = row_there rows e.to r.0 r.1 in
      let more = by r.0 (sym (ap (λ o. is_covered o e.state) r.1) ∙ open_one) in
      let here : size (row_at rows e.to) < suc (flow.rank (raised (row_at rows e.to) e.state)) =
      subst (λ o. size o < suc (flow.rank (raised o e.state))) (sym at) more in
      let sum = total_set e.to (Some (raised (row_at rows e.to) e.state)) rows inside in
      omega (arith, here, sum)
    where
      by : (o : Option State) → is_covered (Some o) e.state ≡ false → size o < suc (flow.rank (raised o e.state))
      by None f = omega arith
      by (Some r) f = let lt = leb-false (flow.rank (flow.join r e.state)) (flow.rank r) f in omega (arith, lt)

  abbrev grow_by : Rows → Option (Edge State) → (Rows → Rows) → Rows
  grow_by rows None more = rows
  grow_by rows (Some e) more = more (put rows e)

  abbrev grow : ℕ → Rows → Rows
  grow zero rows = rows
  grow (suc n) rows = grow_by rows (unmet rows) (grow n)

  record IsDone (rows : Rows) : Type 0 where
    rising : IsRising rows
    met : unmet rows ≡ None

  grown : (n : ℕ) (rows : Rows) → IsRising rows → places * suc flow.height < n + total rows → IsDone (grow n rows)
  grown zero rows is lt =
      let v = is.valid in
      let le = total_bounded rows v.own in
      let same : length rows * suc flow.height ≡ places * suc flow.height = ap (λ k. k * suc flow.height) v.sized in
      absurd (omega (arith, lt, le, same))
  grown (suc n) rows is lt = by (unmet rows) refl (grown n)
    where
      by : (o : Option (Edge State)) → unmet rows ≡ o → ((others : Rows) → IsRising others
          → places * suc flow.height < n + total others → IsDone (grow n others)) → IsDone (grow_by rows o (grow n))
      by None e more = record { rising = is; met = e }
      by (Some e) f more =
          let v = is.valid in
          let one = opened rows e f in
          let mine = demand_own rows v e one.0 in
          let up = put_higher rows v e mine.1 one.1 in
          more (put rows e) (put_rises rows is e one.0) (omega (arith, lt, up))

  -- ---- nothing is left

  closed_when_done : (rows : Rows) → IsDone rows → IsClosed flow places rows
  closed_when_done rows is =
      let rising = is.rising in
      let v = rising.valid in
      record {
        sized = v.sized;
        own = v.own;
        entry = λ lt. covered first_edge (at_entry lt refl);
        steps = λ at x row e c. covered e (by_step at x row c);
      }
    where
      covered : (e : Edge State) → Demanded rows e → Covers flow rows e.to e.state
      covered e demanded = by (slice_get rows e.to) refl (settled rows e is.met demanded)
        where
          by : (o : Option (Option State)) → slice_get rows e.to ≡ o → is_covered o e.state ≡ true
              → Covers flow rows e.to e.state
          by None f g = absurd cc
          by (Some None) f g = absurd cc
          by (Some (Some r)) f g =
              let rising = is.rising in
              let v = rising.valid in
              let own = v.own e.to r f in
              let e_own = (demand_own rows v e demanded).0 in
              let j = lawful.is_join r e.state own e_own in
              let le = leb-true (flow.rank (flow.join r e.state)) (flow.rank r) g in
              let down = lawful.rises r (flow.join r e.state) own j.own j.above_left le in
              record {
                row = r;
                is_row = f;
                above = lawful.transitive e.state (flow.join r e.state) r e_own j.own own
                    j.above_right down;
              }

  -- ---- from nothing

  abbrev nothing : ℕ → Rows
  nothing zero = []
  nothing (suc n) = None ∷ nothing n

  nothing_length : (n : ℕ) → length (nothing n) ≡ n
  nothing_length zero = refl
  nothing_length (suc n) = ap suc (nothing_length n)

  nothing_there : (n at : ℕ) (x : State) → HasRow (nothing n) at x → ⊥
  nothing_there zero at x e = cc
  nothing_there (suc n) zero x e = cc
  nothing_there (suc n) (suc at) x e = nothing_there n at x e

  pub least_exists : (rows : List (Option State)) × IsLeastClosed flow places rows
  least_exists =
      let start : IsRising (nothing places) = record {
        valid = record {
          sized = nothing_length places;
          own = λ at x e. absurd (nothing_there places at x e);
        };
        below = λ others closed at x e. absurd (nothing_there places at x e);
      } in
      let n = suc (places * suc flow.height) in
      let done = grown n (nothing places) start (omega arith) in
      let rising = done.rising in (
        grow n (nothing places),
        record {
          closed = closed_when_done (grow n (nothing places)) done;
          least = rising.below;
        },
      )
