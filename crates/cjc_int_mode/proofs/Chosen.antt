-- Which mode a method is in, by what was found of it.
use Rattle.std.proofs.Common.{◌≡◌, ℕ, Bool, true, false, List, Option, Some, None, refl, sym, ◌∙◌}
use Rattle.cjc_subset.specs.Bytes.declared.breaks.BrokenAt.{BrokenAt}
use Rattle.cjc_flow.specs.LowerTypes.declared.state.State.{State}
use Rattle.cjc_flow.specs.LowerTypes.Flow.{Body}
use Rattle.cjc_flow.specs.LowerIntervals.Frames.{RangeState}
use Rattle.cjc_int_mode.specs.declared.modes.Mode.TheVariants as modes
use Rattle.cjc_flow.specs.declared.tests.passing.Tested.TheVariants as kinds
use Rattle.cjc_flow.specs.Tests.Breaches.{IsFound, is_tested}
use Rattle.cjc_int_mode.specs.Modes.{names_int, NeedsInt, by_name, by_operand, IsModeOf}

module _ (b : Body) (types : List (Option State)) (ranges : List (Option RangeState)) where
  pub named : (names : Bool) → names ≡ true → names ≡ names_int b → IsModeOf true b types ranges modes.Int
  named names found is = record { allowed = refl; needed = by_name (sym is ∙ found) }

  pub wide : (broken : BrokenAt) → IsFound (is_tested kinds.LowWords) b types ranges (Some broken)
      → IsModeOf true b types ranges modes.Int
  wide broken h = record {
    allowed = refl;
    needed = by_operand h.place broken.rule h.first.is_wanted h.first.breach;
  }

  not_needed : names_int b ≡ false → IsFound (is_tested kinds.LowWords) b types ranges None → NeedsInt b types ranges
      → ⊥
  not_needed unnamed none (by_name found) = absurd cc
  not_needed unnamed none (by_operand place rule is breach) = none place rule is breach

  pub narrow : (names : Bool) → names ≡ false → names ≡ names_int b → IsFound (is_tested kinds.LowWords) b types ranges
      None → IsModeOf true b types ranges modes.Short
  narrow names unnamed is none h = not_needed (sym is ∙ unnamed) none h.needed

  pub without : (ints : Bool) → ints ≡ false → IsModeOf ints b types ranges modes.Short
  without ints off h = let on = h.allowed in cc

-- What is found of some rules is what is found of others that are the same.
pub found_by : (wanted other : ℕ → Bool) (b : Body) (types : List (Option State)) (ranges : List (Option RangeState))
    → ((rule : ℕ) → wanted rule ≡ other rule) → (o : Option BrokenAt) → IsFound wanted b types ranges o
    → IsFound other b types ranges o
found_by wanted other b types ranges same None h = λ place rule is breach. h place rule (same rule ∙ is) breach
found_by wanted other b types ranges same (Some broken) h = record {
  place = h.place;
  first = record {
    is_wanted = sym (same broken.rule) ∙ h.first.is_wanted;
    breach = h.first.breach;
    first = λ place rule is breach. h.first.first place rule (same rule ∙ is) breach;
  };
  is = h.is;
}
