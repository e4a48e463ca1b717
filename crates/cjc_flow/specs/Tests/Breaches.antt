-- The operands of a method that may lie outside of what some of rules 601 to 609 allow; a test of their numbers says
-- which.
use Rattle.std.specs.Prelude.{◌≡◌, ◌⊎◌, ◌<◌, ◌≤◌, ◌==◌, ◌&&◌, ◌||◌, nat_le, not, ℕ, Bool, true, List, Option, Some}
use Rattle.std.specs.Prelude.{None, int_le}
use Rattle.cjc_fixpoint.specs.Bytes.declared.breaks.BrokenAt.{BrokenAt}
use Rattle.cjc_range.specs.Span.{Span}
use Rattle.cjc_types.specs.declared.state.State.{State}
use Rattle.cjc_types.specs.Flow.{Body}
use Rattle.cjc_intervals.specs.Frames.{RangeState}
use Rattle.cjc_intervals.specs.Tables.{Breach}
use Rattle.cjc_flow.specs.declared.tests.passing.Tested.{Tested}
use Rattle.cjc_flow.specs.declared.tests.passing.Tested.TheVariants as tests

-- whether the interval lies within its bound
abbrev pub lies_in : Span → (bound : Span) → Bool
lies_in s bound = int_le bound.low s.low && int_le s.high bound.high

-- Where a number is its low word alone: 601 bounds operands of comparisons, 602 of divisions, 603 of shifts to the
-- right, 604 of switches, and 606 indices of arrays.
abbrev pub is_of_low_word : (rule : ℕ) → Bool
is_of_low_word rule = (nat_le 601 rule && nat_le rule 604) || (rule == 606)

-- all of 601 to 609, or 601 to 604 and 606, or 605 and 607 to 609
abbrev pub is_tested : Tested → (rule : ℕ) → Bool
is_tested tests.All rule = true
is_tested tests.LowWords rule = is_of_low_word rule
is_tested tests.Values rule = not (is_of_low_word rule)

module _ (wanted : ℕ → Bool) (b : Body) (types : List (Option State)) (ranges : List (Option RangeState)) where
  -- Each operand lies where the wanted rules say.
  abbrev pub NoBreach : Type 0
  NoBreach = (place rule : ℕ) → wanted rule ≡ true → Breach b types ranges place rule → ⊥

  -- A wanted rule is broken at this place, and none at an earlier one, or a lower one at the same.
  pub record FirstBreach (place rule : ℕ) : Type 0 where
    pub is_wanted : wanted rule ≡ true
    pub breach : Breach b types ranges place rule
    pub first : (other_place other_rule : ℕ) → wanted other_rule ≡ true
        → Breach b types ranges other_place other_rule → (place < other_place)
        ⊎ ((place ≡ other_place) × (rule ≤ other_rule))

  -- The rule is that of the first breach, and the offset that of its instruction.
  pub record IsFirstBroken (broken : BrokenAt) : Type 0 where
    pub place : ℕ
    pub first : FirstBreach place broken.rule
    pub is : broken.offset ≡ first.breach.insn.at

  -- Nothing is answered where each operand lies where the wanted rules say, else the first breach.
  abbrev pub IsFound : Option BrokenAt → Type 0
  IsFound None = NoBreach
  IsFound (Some broken) = IsFirstBroken broken
