-- A method has one mode and one first number that may lie outside there, and what is found is that.
use Rattle.std.proofs.Common.{◌≡◌, ◌⊎◌, inl, inr, ◌<◌, ◌≤◌, Bool, ℕ, sym, ap, ◌∙◌, subst, List, Option, Some}
use Rattle.std.proofs.Common.{None, arith, refl}
use Rattle.std.specs.Prelude.{IfSome, slice_get}
use Rattle.cjc_bytes.specs.declared.breaks.BrokenAt.{BrokenAt}
use Rattle.cjc_clinit.specs.Bytecode.declared.insn.JInsn.{JInsn}
use Rattle.cjc_narrow.specs.Types.declared.state.State.{State}
use Rattle.cjc_narrow.specs.Types.declared.table.TypeTable.{TypeTable}
use Rattle.cjc_narrow.specs.Types.Flow.{Body}
use Rattle.cjc_narrow.specs.Types.Tables.{IsTypeTable, rows_of}
use Rattle.cjc_flow.proofs.TypesLeast.{one_least}
use Rattle.cjc_flow.specs.LowerIntervals.Frames.{RangeState}
use Rattle.cjc_flow.specs.LowerIntervals.Tables.{IsLeastRanges}
use Rattle.cjc_flow.specs.Tables.{IsRangeTable, ranges_of}
use Rattle.cjc_flow.specs.Tests.Breaches.{IsFirstBroken, IsFound}
use Rattle.cjc_world.specs.Classes.{all_classes}
use Rattle.cjc_world.specs.Files.{Files}
use Rattle.cjc_int_mode.specs.Modes.{IsModeOf, binds}
use Rattle.cjc_int_mode.specs.declared.modes.Mode.{Mode}
use Rattle.cjc_int_mode.specs.declared.modes.Mode.TheVariants as modes
use Rattle.cjc_int_narrow.specs.Constants.{constants_of}
use Rattle.cjc_int_narrow.proofs.OneLeast.{one_least_ranges}
use Rattle.cjc_judge.specs.OutOfRange.{IsModeBy, IsOutOfRange, IsVerdict}

-- ---- over the same tables

module _ (b : Body) (types : List (Option State)) (ranges : List (Option RangeState)) where
  same_at : (p q r s : ℕ) → (p < q) ⊎ ((p ≡ q) × (r ≤ s)) → (q < p) ⊎ ((q ≡ p) × (s ≤ r)) → (p ≡ q) × (r ≡ s)
  same_at p q r s (inl h) (inl k) = absurd (omega (arith, h, k))
  same_at p q r s (inl h) (inr k) = absurd (let e = k.0 in omega (arith, h, e))
  same_at p q r s (inr h) (inl k) = absurd (let e = h.0 in omega (arith, k, e))
  same_at p q r s (inr h) (inr k) = let a = h.1 in let c = k.1 in (h.0, omega (arith, a, c))

  one_mode : (ints : Bool) (left right : Mode) → IsModeOf ints b types ranges left → IsModeOf ints b types ranges right
      → left ≡ right
  one_mode ints modes.Short modes.Short h k = refl
  one_mode ints modes.Short modes.Int h k = absurd (h k)
  one_mode ints modes.Int modes.Short h k = absurd (k h)
  one_mode ints modes.Int modes.Int h k = refl

  module _ (wanted : ℕ → Bool) where
    one_first : (x y : BrokenAt) → IsFirstBroken wanted b types ranges x → IsFirstBroken wanted b types ranges y → x ≡ y
    one_first x y f g =
        let same = same_at f.place g.place x.rule y.rule
        (f.first.first g.place y.rule g.first.is_wanted g.first.breach)
        (g.first.first f.place x.rule f.first.is_wanted f.first.breach) in
        let rule : x.rule ≡ y.rule = same.1 in
        let insn : f.first.breach.insn ≡ g.first.breach.insn =
        (let e = f.first.breach.is_insn in let h = ap (slice_get b.insns) same.0 ∙ g.first.breach.is_insn in cc) in
        let offset : x.offset ≡ y.offset = f.is ∙ ap (λ (i : JInsn). i.at) insn ∙ sym g.is in
        ap (λ (r : ℕ). let z : BrokenAt = record { rule = r; offset = x.offset } in z) rule
        ∙ ap (λ (o : ℕ). let z : BrokenAt = record { rule = y.rule; offset = o } in z) offset

    found_this : (o : Option BrokenAt) (x : BrokenAt) → IsFound wanted b types ranges o
        → IsFirstBroken wanted b types ranges x → o ≡ Some x
    found_this None x found f = absurd (found f.place x.rule f.first.is_wanted f.first.breach)
    found_this (Some y) x found f = ap Some (one_first y x found f)

-- ---- what is told over the tables that were made

module _ (ints : Bool) (files : Files) (b : Body) (table : TypeTable) (typed : IsTypeTable (all_classes files) b table)
    (marks : List ℕ) (rows : List (Option RangeState)) (ranged : IsRangeTable b (constants_of files) (rows_of b table)
    marks rows) where
  abbrev types : List (Option State)
  types = rows_of b table

  abbrev ranges : List (Option RangeState)
  ranges = ranges_of b (constants_of files) types marks rows

  same_ranges : (others : List (Option RangeState)) → IsLeastRanges b (constants_of files) types others
      → others ≡ ranges
  same_ranges others least = one_least_ranges b (constants_of files) types others ranges least ranged.stands.least

  module _ (mode : Mode) (is_mode : IsModeOf ints b types ranges mode) where
    is_by : IsModeBy ints files b mode
    is_by others is_least spans are_least =
        let same_types : others ≡ types = one_least b others types is_least typed.stands.least in
        let same : spans ≡ ranges = same_ranges spans (subst (λ (ts : List (Option State)). IsLeastRanges b
        (constants_of files) ts spans) same_types are_least) in
        subst (λ (ts : List (Option State)). IsModeOf ints b ts spans mode) (sym same_types)
        (subst (λ (rs : List (Option RangeState)). IsModeOf ints b types rs mode) (sym same) is_mode)

    is_out : (o : Option BrokenAt) → IsFound (binds mode) b types ranges o → IfSome o (IsOutOfRange ints files b)
    is_out None found = tt
    is_out (Some x) found = record {
      types = types;
      typed = typed.stands.least;
      unbroken = typed.unbroken;
      ranges = ranges;
      least = ranged.stands.least;
      mode = mode;
      is_mode = is_mode;
      first = found;
    }

    first_here : (x : BrokenAt) → IsOutOfRange ints files b x → IsFirstBroken (binds mode) b types ranges x
    first_here x h =
        let same_types : h.types ≡ types = one_least b h.types types h.typed typed.stands.least in
        let same : h.ranges ≡ ranges = same_ranges h.ranges (subst (λ (ts : List (Option State)). IsLeastRanges b
        (constants_of files) ts h.ranges) same_types h.least) in
        let by : IsModeOf ints b types ranges h.mode =
        subst (λ (rs : List (Option RangeState)). IsModeOf ints b types rs h.mode) same
        (subst (λ (ts : List (Option State)). IsModeOf ints b ts h.ranges h.mode) same_types h.is_mode) in
        let one : h.mode ≡ mode = one_mode b types ranges ints h.mode mode by is_mode in
        subst (λ (m : Mode). IsFirstBroken (binds m) b types ranges x) one
        (subst (λ (rs : List (Option RangeState)). IsFirstBroken (binds h.mode) b types rs x) same
        (subst (λ (ts : List (Option State)). IsFirstBroken (binds h.mode) b ts h.ranges x) same_types h.first))

    pub is_verdict : (o : Option BrokenAt) → IsFound (binds mode) b types ranges o
        → IsVerdict ints files b (record { mode = mode; broken = o })
    is_verdict o found = record {
      mode = is_by;
      broken = is_out o found;
      breaks = λ x h. found_this b types ranges (binds mode) o x found (first_here x h);
    }
