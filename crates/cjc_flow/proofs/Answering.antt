-- What the table that is found is, and what a walk over it goes through.
use Rattle.std.proofs.Common.{◌≡◌, ℕ, List, length, Option, Result, Ok, Err, IfOk, sym, ap, ◌∙◌, subst, ℤ}
use Rattle.cjc_fixpoint.specs.Bytes.declared.fault.MemberId.{MemberId}
use Rattle.cjc_fixpoint.specs.declared.table.Table.{Table}
use Rattle.cjc_fixpoint.specs.Kept.{StandsForLeast, full}
use Rattle.cjc_types.specs.World.Classes.{Class}
use Rattle.cjc_types.specs.declared.table.TypeTable.{TypeTable}
use Rattle.cjc_types.specs.Flow.{Body}
use Rattle.cjc_types.specs.Tables.{IsTypeTable, rows_of}
use Rattle.cjc_intervals.specs.Frames.{RangeState}
use Rattle.cjc_flow.specs.Constants.{AreNumbers, values_of}
use Rattle.cjc_flow.specs.Tables.{IsRangeTable, ranges_of}
use Rattle.cjc_flow.specs.Working.Kept.{Ranged, kept_flow}
use Rattle.cjc_flow.proofs.Least.{range_table, full_same, stands_kept}

module _ (w : List Class) (b : Body) (table : TypeTable) (typing : IsTypeTable w b table) (values : List (Option ℤ))
    (r : Ranged) (is : record { body = b; values = values; types = rows_of b table } ≡ r) (places : ℕ) (are : places
    ≡ length b.insns) where
  abbrev here : Ranged
  here = record { body = b; values = values; types = rows_of b table }

  pub ranged_answer : {E : Type 0} (result : Result (Table RangeState) E) → IfOk result (λ t. t.marks ≡ table.marks)
      → IfOk result (λ t. StandsForLeast (kept_flow r) places t.marks t.rows)
      → (constant : MemberId → Option ℤ) → AreNumbers constant → r.values ≡ values_of constant r.body.insns
      → IfOk result (λ t. IsRangeTable r.body constant r.types t.marks t.rows)
  ranged_answer {E} result has_marks has_stands constant numbers are_values =
      let P : Ranged → Type 0 = λ s. IfOk result (λ t. StandsForLeast (kept_flow s) places t.marks t.rows)
      → s.values ≡ values_of constant s.body.insns
      → IfOk result (λ t. IsRangeTable s.body constant s.types t.marks t.rows) in
      subst P is (go result has_marks) has_stands are_values
    where
      go : (result : Result (Table RangeState) E) → IfOk result (λ t. t.marks ≡ table.marks)
          → IfOk result (λ t. StandsForLeast (kept_flow here) places t.marks t.rows)
          → values ≡ values_of constant b.insns → IfOk result (λ t. IsRangeTable b constant (rows_of b table) t.marks
          t.rows)
      go (Ok t) marks stands found = range_table w b table typing constant numbers values found t.marks t.rows
          (subst (λ (n : ℕ). StandsForLeast (kept_flow here) n t.marks t.rows) are stands) marks
      go (Err e) marks stands found = tt

  module _ (marks : List ℕ) (rows : List (Option RangeState)) where
    pub walk_stands : (constant : MemberId → Option ℤ) → AreNumbers constant
        → r.values ≡ values_of constant r.body.insns → IsRangeTable r.body constant r.types marks rows
        → StandsForLeast (kept_flow r) places marks rows
    walk_stands constant numbers are_values h =
        let P : Ranged → Type 0 = λ s. s.values ≡ values_of constant s.body.insns
        → IsRangeTable s.body constant s.types marks rows → StandsForLeast (kept_flow s) places marks rows in
        subst P is (λ found k. subst (λ (n : ℕ). StandsForLeast (kept_flow here) n marks rows) (sym are)
        (stands_kept w b table typing constant numbers values found marks rows k.stands)) are_values h

    pub walk_rows : StandsForLeast (kept_flow r) places marks rows → (constant : MemberId → Option ℤ)
        → AreNumbers constant → r.values ≡ values_of constant r.body.insns → full (kept_flow r) places marks rows
        ≡ ranges_of r.body constant r.types marks rows
    walk_rows stands constant numbers are_values =
        let P : Ranged → Type 0 = λ s. StandsForLeast (kept_flow s) places marks rows
        → s.values ≡ values_of constant s.body.insns → full (kept_flow s) places marks rows
        ≡ ranges_of s.body constant s.types marks rows in
        subst P is (λ h found.
        ap (λ (n : ℕ). full (kept_flow here) n marks rows) are
        ∙ sym (full_same w b table typing constant numbers values found marks rows
        (subst (λ (n : ℕ). StandsForLeast (kept_flow here) n marks rows) are h))) stands are_values
