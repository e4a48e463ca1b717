-- The mode of a method. In int mode every number is two words with its whole value of 32 bits; in short mode it is the
-- one word that its low half is.
use Rattle.std.specs.Prelude.{◌≡◌, ℕ, Bool, true, not, ◌||◌, List, Option}
use Rattle.std.specs.List.{list_any}
use Rattle.cjc_flow.specs.LowerTypes.declared.state.State.{State}
use Rattle.cjc_flow.specs.LowerTypes.Flow.{Body}
use Rattle.cjc_flow.specs.LowerIntervals.Frames.{RangeState}
use Rattle.cjc_flow.specs.LowerIntervals.Tables.{Breach}
use Rattle.cjc_flow.specs.Tests.Breaches.{is_of_low_word}
use Rattle.cjc_subset.specs.Ints.{works_on_int}
use Rattle.cjc_subset.specs.Types.{is_int_desc}
use Rattle.cjc_int_mode.specs.declared.modes.Mode.{Mode}
use Rattle.cjc_int_mode.specs.declared.modes.Mode.TheVariants as modes

-- ---- rules by mode

-- Whether one of 601 to 609 binds a method of this mode. 605 and 607 to 609 bind every method: of a count of elements,
-- and of a value of type short, byte or boolean, one word is kept in int mode too.
abbrev pub binds : Mode → (rule : ℕ) → Bool
binds modes.Short rule = true
binds modes.Int rule = not (is_of_low_word rule)

-- ---- which mode

-- int stands in the method's descriptor, or one of its instructions, reached or not, works on int
abbrev pub names_int : Body → Bool
names_int b = is_int_desc b.desc || list_any (λ i. works_on_int i.op) b.insns

-- why the low words of numbers would not do
pub data NeedsInt (b : Body) (types : List (Option State)) (ranges : List (Option RangeState)) : Type 0 where
  -- the method names int
  by_name : names_int b ≡ true → NeedsInt b types ranges
  -- an operand may lie outside of what a rule on low words allows
  by_operand : (place rule : ℕ) → is_of_low_word rule ≡ true → Breach b types ranges place rule
      → NeedsInt b types ranges

module _ (ints : Bool) (b : Body) (types : List (Option State)) (ranges : List (Option RangeState)) where
  -- The card has the type int, and the method needs it.
  pub record IsInIntMode : Type 0 where
    pub allowed : ints ≡ true
    pub needed : NeedsInt b types ranges

  -- the mode of a method: Int exactly where it is in int mode
  abbrev pub IsModeOf : Mode → Type 0
  IsModeOf modes.Int = IsInIntMode
  IsModeOf modes.Short = IsInIntMode → ⊥
