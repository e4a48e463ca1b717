-- Least tables: what holds at the entry and is handed on along edges holds of each row, and so does what bounds rows.
use Rattle.std.proofs.Common.{◌≡◌, ℕ, zero, suc, ◌+◌, ◌<◌, refl, sym, ap, subst, ◌∙◌, arith, Bool, true, false, List}
use Rattle.std.proofs.Common.{[]}
use Rattle.std.proofs.Common.{◌∷◌, length, map, slice_get, Option, Some, None, Contains}
use Rattle.std.specs.Prelude.{option_map, if◌then◌else◌}
use Rattle.std.proofs.lemmas.List.{length-map}
use Rattle.cjc_types.specs.Fixpoint.Dataflow.{Dataflow, IsLawful}
use Rattle.cjc_types.specs.Fixpoint.Tables.{Covers, HasRow, IsClosed, IsLeastClosed}
use Rattle.cjc_types.specs.Fixpoint.declared.flow.Edge.{Edge}

same_row : {A : Type 0} {x y : A} → ◌≡◌ {A = Option (Option A)} (Some (Some x)) (Some (Some y)) → x ≡ y
same_row e = cc

none_is_no_row : {A : Type 0} {x : A} → ◌≡◌ {A = Option (Option A)} (Some None) (Some (Some x)) → ⊥
none_is_no_row e = cc

module _ {State : Type 0} (flow : Dataflow State) (places : ℕ) (rows : List (Option State)) (least : IsLeastClosed flow
    places rows) where
  -- ---- what holds of rows

  module _ (P : ℕ → State → Bool) (up : (at : ℕ) (x y : State) → flow.Below x y → P at x ≡ true → P at y ≡ true)
      (begins : P 0 flow.entry ≡ true) (steps : (at : ℕ) (x : State) → HasRow rows at x → P at x ≡ true
      → (e : Edge State) → Contains (flow.edges at x) e → P e.to e.state ≡ true) where
    -- the rows of which it holds
    abbrev kept : (at : ℕ) → List (Option State) → List (Option State)
    kept at [] = []
    kept at (None ∷ rs) = None ∷ kept (suc at) rs
    kept at (Some x ∷ rs) = (if P at x then Some x else None) ∷ kept (suc at) rs

    kept_long : (at : ℕ) (rs : List (Option State)) → length (kept at rs) ≡ length rs
    kept_long at [] = refl
    kept_long at (None ∷ rs) = ap suc (kept_long (suc at) rs)
    kept_long at (Some x ∷ rs) = ap suc (kept_long (suc at) rs)

    kept_row : (at k : ℕ) (rs : List (Option State)) (x : State) → slice_get (kept at rs) k ≡ Some (Some x)
        → (slice_get rs k ≡ Some (Some x)) × (P (at + k) x ≡ true)
    kept_row at k [] x e = absurd cc
    kept_row at zero (None ∷ rs) x e = absurd (none_is_no_row e)
    kept_row at zero (Some y ∷ rs) x e = by (P at y) refl e
      where
        by : (b : Bool) → P at y ≡ b → ◌≡◌ {A = Option (Option State)} (Some (if b then Some y else None))
            (Some (Some x)) → (slice_get (Some y ∷ rs) 0 ≡ Some (Some x)) × (P (at + 0) x ≡ true)
        by true f g =
            let first : at ≡ at + 0 = omega arith in
            (g, subst (λ n. P n x ≡ true) first (subst (λ (z : State). P at z ≡ true) (same_row g) f))
        by false f g = absurd (none_is_no_row g)
    kept_row at (suc k) (None ∷ rs) x e =
        let r = kept_row (suc at) k rs x e in
        let next : suc at + k ≡ at + suc k = omega arith in
        (r.0, subst (λ n. P n x ≡ true) next r.1)
    kept_row at (suc k) (Some y ∷ rs) x e =
        let r = kept_row (suc at) k rs x e in
        let next : suc at + k ≡ at + suc k = omega arith in
        (r.0, subst (λ n. P n x ≡ true) next r.1)

    kept_in : (at k : ℕ) (rs : List (Option State)) (x : State) → slice_get rs k ≡ Some (Some x) → P (at + k) x ≡ true
        → slice_get (kept at rs) k ≡ Some (Some x)
    kept_in at k [] x e h = absurd cc
    kept_in at zero (None ∷ rs) x e h = absurd (none_is_no_row e)
    kept_in at zero (Some y ∷ rs) x e h =
        let first : at + 0 ≡ at = omega arith in
        let holds : P at y ≡ true = subst (λ (z : State). P at z ≡ true) (sym (same_row e)) (subst (λ n. P n x ≡ true)
        first h) in
        ap (λ b. Some (if b then Some y else None)) holds ∙ e
    kept_in at (suc k) (None ∷ rs) x e h =
        let next : at + suc k ≡ suc at + k = omega arith in
        kept_in (suc at) k rs x e (subst (λ n. P n x ≡ true) next h)
    kept_in at (suc k) (Some y ∷ rs) x e h =
        let next : at + suc k ≡ suc at + k = omega arith in
        kept_in (suc at) k rs x e (subst (λ n. P n x ≡ true) next h)

    covered : (at : ℕ) (z : State) → Covers flow rows at z → P at z ≡ true → Covers flow (kept 0 rows) at z
    covered at z c h =
        let none : at ≡ 0 + at = omega arith in
        record {
          row = c.row;
          is_row = kept_in 0 at rows c.row c.is_row (subst (λ n. P n c.row ≡ true) none (up at z c.row c.above h));
          above = c.above;
        }

    kept_closed : IsClosed flow places (kept 0 rows)
    kept_closed = record {
      sized = kept_long 0 rows ∙ least.closed.sized;
      own = λ at x row. least.closed.own at x (kept_row 0 at rows x row).0;
      entry = λ some. covered 0 flow.entry (least.closed.entry some) begins;
      steps = λ at x row e on. (
          let r = kept_row 0 at rows x row in
          let none : 0 + at ≡ at = omega arith in
          covered e.to e.state (least.closed.steps at x r.0 e on) (steps at x r.0 (subst (λ n. P n x ≡ true) none r.1) e
          on)
          );
    }

    -- it holds of each
    pub all_hold : (at : ℕ) (x : State) → HasRow rows at x → P at x ≡ true
    all_hold at x row =
        let c = least.least (kept 0 rows) kept_closed at x row in
        let r = kept_row 0 at rows c.row c.is_row in
        let none : 0 + at ≡ at = omega arith in
        subst (λ (z : State). P at z ≡ true) (same_row (sym r.0 ∙ row)) (subst (λ n. P n c.row ≡ true) none r.1)

  -- ---- what bounds rows

  module _ (lawful : IsLawful flow) (cut : State → State) (U : State → Type 0)
      (lower : (at : ℕ) (x : State) → HasRow rows at x → flow.Below (cut x) x)
      (own : (at : ℕ) (x : State) → HasRow rows at x → flow.Own (cut x))
      (under : (z y : State) → flow.Below z y → U z → flow.Below z (cut y)) (begins : U flow.entry)
      (steps : (at : ℕ) (x : State) → HasRow rows at x → (e : Edge State) → Contains (flow.edges at (cut x)) e
      → U e.state) where
    abbrev cut_rows : List (Option State) → List (Option State)
    cut_rows rs = map (option_map cut) rs

    cut_there : (rs : List (Option State)) (k : ℕ) (y : State) → slice_get (cut_rows rs) k ≡ Some (Some y)
        → (x : State) × (slice_get rs k ≡ Some (Some x)) × (cut x ≡ y)
    cut_there [] k y e = absurd cc
    cut_there (None ∷ rs) zero y e = absurd (none_is_no_row e)
    cut_there (Some x ∷ rs) zero y e = (x, refl, same_row e)
    cut_there (r ∷ rs) (suc k) y e = cut_there rs k y e

    cut_in : (rs : List (Option State)) (k : ℕ) (x : State) → slice_get rs k ≡ Some (Some x)
        → slice_get (cut_rows rs) k ≡ Some (Some (cut x))
    cut_in [] k x e = absurd cc
    cut_in (None ∷ rs) zero x e = absurd (none_is_no_row e)
    cut_in (Some y ∷ rs) zero x e = ap (λ (z : State). Some (Some (cut z))) (same_row e)
    cut_in (r ∷ rs) (suc k) x e = cut_in rs k x e

    cut_closed : IsClosed flow places (cut_rows rows)
    cut_closed = record {
      sized = length-map rows (option_map cut) ∙ least.closed.sized;
      own = λ at y row. (let r = cut_there rows at y row in subst flow.Own r.2 (own at r.0 r.1));
      entry = λ some. (let c = least.closed.entry some in record {
        row = cut c.row;
        is_row = cut_in rows 0 c.row c.is_row;
        above = under flow.entry c.row c.above begins;
      });
      steps = λ at y row e on. (
          let r = cut_there rows at y row in
          let x = r.0 in
          let on_cut : Contains (flow.edges at (cut x)) e = subst (λ (z : State). Contains (flow.edges at z) e)
          (sym r.2) on in
          let low = lower at x r.1 in
          let own_cut = own at x r.1 in
          let own_x = least.closed.own at x r.1 in
          let f = lawful.monotone at (cut x) x own_cut own_x low e on_cut in
          let c = least.closed.steps at x r.1 f.0 f.1 in
          let own_e = lawful.own_edges at (cut x) own_cut e on_cut in
          let own_f = lawful.own_edges at x own_x f.0 f.1 in
          let below = lawful.transitive e.state f.0.state c.row own_e own_f (least.closed.own f.0.to c.row c.is_row) f.3
          c.above in
          record {
            row = cut c.row;
            is_row = cut_in rows e.to c.row (subst (λ n. slice_get rows n ≡ Some (Some c.row)) f.2 c.is_row);
            above = under e.state c.row below (steps at x r.1 e on_cut);
          }
          );
    }

    pub all_under : (at : ℕ) (x : State) → HasRow rows at x → flow.Below x (cut x)
    all_under at x row =
        let c = least.least (cut_rows rows) cut_closed at x row in
        let r = cut_there rows at c.row c.is_row in
        subst (λ (z : State). flow.Below x z) (sym r.2 ∙ ap cut (same_row (sym r.1 ∙ row))) c.above
