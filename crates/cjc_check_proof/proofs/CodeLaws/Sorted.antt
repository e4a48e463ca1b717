-- Handlers of a method in the order of the table: what holds of all of them still holds, none is without a range, and
-- targets rise.
use Rattle.std.proofs.Common.{◌≡◌, ℕ, ◌<◌, ◌≤◌, refl, arith, Bool, true, false, List, [], ◌∷◌}
use Rattle.std.specs.Prelude.{filter, nat_le, cond, if◌then◌else◌}
use Rattle.std.specs.List.{AllByRecursion}
use Rattle.std.proofs.lemmas.Bool.{leb-false, leb-true, ltb-true}
use Rattle.cjc_ncode.specs.declared.narrow.NCatch.{NCatch}
use Rattle.cjc_pool.specs.Layout.Handlers.{AllLie, by_target, has_range, inserted, Lies, table_order}

module _ (P : NCatch → Type 0) where
  each_inserted : (c : NCatch) (ds : List NCatch) → P c → AllByRecursion P ds → AllByRecursion P (inserted c ds)
  each_inserted c [] h all = (h, tt)
  each_inserted c (d ∷ ds) h all = by (nat_le c.target d.target) (each_inserted c ds h all.1)
    where
      by : (b : Bool) → AllByRecursion P (inserted c ds) → AllByRecursion P (if b then c ∷ d ∷ ds
          else d ∷ inserted c ds)
      by true rest = (h, all)
      by false rest = (all.0, rest)

  each_by_target : (cs : List NCatch) → AllByRecursion P cs → AllByRecursion P (by_target cs)
  each_by_target [] all = tt
  each_by_target (c ∷ cs) all = each_inserted c (by_target cs) all.0 (each_by_target cs all.1)

  each_kept : (cs : List NCatch) → AllByRecursion P cs → AllByRecursion P (filter has_range cs)
  each_kept [] all = tt
  each_kept (c ∷ cs) all = by (has_range c) (each_kept cs all.1)
    where
      by : (b : Bool) → AllByRecursion P (filter has_range cs)
          → AllByRecursion P (cond b (c ∷ filter has_range cs) (filter has_range cs))
      by true rest = (all.0, rest)
      by false rest = rest

  -- what holds of all handlers holds of those in the table
  pub each_ordered : (cs : List NCatch) → AllByRecursion P cs → AllByRecursion P (table_order cs)
  each_ordered cs all = each_by_target (filter has_range cs) (each_kept cs all)

-- ---- ranges

kept_ranges : (cs : List NCatch) → AllByRecursion (λ (c : NCatch). c.start < c.end) (filter has_range cs)
kept_ranges [] = tt
kept_ranges (c ∷ cs) = by (has_range c) refl (kept_ranges cs)
  where
    by : (b : Bool) → has_range c ≡ b → AllByRecursion (λ (c : NCatch). c.start < c.end) (filter has_range cs)
        → AllByRecursion (λ (c : NCatch). c.start < c.end) (cond b (c ∷ filter has_range cs) (filter has_range cs))
    by true e rest = (ltb-true c.start c.end e, rest)
    by false e rest = rest

-- each handler in the table covers something
pub ordered_ranges : (cs : List NCatch) → AllByRecursion (λ (c : NCatch). c.start < c.end) (table_order cs)
ordered_ranges cs = each_by_target (λ (c : NCatch). c.start < c.end) (filter has_range cs) (kept_ranges cs)

pub each_lies : (count : ℕ) (cs : List NCatch) → AllLie count cs → AllByRecursion (Lies count) cs
each_lies count [] all = tt
each_lies count (c ∷ cs) all = (all.0, each_lies count cs all.1)

-- ---- targets

-- targets rise from this one on
abbrev pub Rise : (low : ℕ) → List NCatch → Type 0
Rise low [] = Unit {0}
Rise low (c ∷ cs) = (low ≤ c.target) × Rise c.target cs

rise_inserted : (low : ℕ) (c : NCatch) (ds : List NCatch) → low ≤ c.target → Rise low ds → Rise low (inserted c ds)
rise_inserted low c [] le rise = (le, tt)
rise_inserted low c (d ∷ ds) le rise = by (nat_le c.target d.target) refl (λ less. rise_inserted d.target c ds less
    rise.1)
  where
    by : (b : Bool) → nat_le c.target d.target ≡ b → (d.target ≤ c.target → Rise d.target (inserted c ds))
        → Rise low (if b then c ∷ d ∷ ds else d ∷ inserted c ds)
    by true e rest = (le, (leb-true c.target d.target e, rise.1))
    by false e rest = let lt = leb-false c.target d.target e in (rise.0, rest (omega (arith, lt)))

rise_by_target : (cs : List NCatch) → Rise 0 (by_target cs)
rise_by_target [] = tt
rise_by_target (c ∷ cs) = rise_inserted 0 c (by_target cs) (omega arith) (rise_by_target cs)

-- the targets in the table rise
pub ordered_rise : (cs : List NCatch) → Rise 0 (table_order cs)
ordered_rise cs = rise_by_target (filter has_range cs)
