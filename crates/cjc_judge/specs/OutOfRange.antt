-- Which number of a method may lie outside of what its instruction allows, in a package, by the method's mode.
use Rattle.std.specs.Prelude.{◌≡◌, Bool, ℕ, List, Option, Some, IfSome}
use Rattle.cjc_bytes.specs.declared.breaks.BrokenAt.{BrokenAt}
use Rattle.cjc_narrow.specs.Types.declared.state.State.{State}
use Rattle.cjc_narrow.specs.Types.Flow.{Body}
use Rattle.cjc_narrow.specs.Types.Tables.{IsLeastTable, Breach}
use Rattle.cjc_flow.specs.LowerIntervals.Frames.{RangeState}
use Rattle.cjc_flow.specs.LowerIntervals.Tables.{IsLeastRanges}
use Rattle.cjc_flow.specs.Tests.Breaches.{IsFirstBroken}
use Rattle.cjc_world.specs.Classes.{all_classes}
use Rattle.cjc_world.specs.Files.{Files}
use Rattle.cjc_int_mode.specs.Modes.{IsModeOf, binds}
use Rattle.cjc_int_mode.specs.declared.modes.Mode.{Mode}
use Rattle.cjc_int_narrow.specs.Constants.{constants_of}
use Rattle.cjc_judge.specs.declared.ranges.numbers.Verdict.{Verdict}

-- It is the mode of the method by its least tables, of which it has one each, where `ints` says whether it may be in
-- int mode.
abbrev pub IsModeBy : (ints : Bool) → Files → Body → Mode → Type 0
IsModeBy ints files b mode = (types : List (Option State)) → IsLeastTable b types → (ranges : List (Option RangeState))
    → IsLeastRanges b (constants_of files) types ranges → IsModeOf ints b types ranges mode

-- The types of a method break none of 501 to 503, and over them some number breaks one of 601 to 609 that binds its
-- mode: this is the first.
pub record IsOutOfRange (ints : Bool) (files : Files) (b : Body) (broken : BrokenAt) : Type 0 where
  pub types : List (Option State)
  pub typed : IsLeastTable b types
  pub unbroken : (place rule : ℕ) → Breach (all_classes files) b types place rule → ⊥
  pub ranges : List (Option RangeState)
  pub least : IsLeastRanges b (constants_of files) types ranges
  pub mode : Mode
  pub is_mode : IsModeOf ints b types ranges mode
  pub first : IsFirstBroken (binds mode) b types ranges broken

-- What is told of the numbers of a method: its mode, and the first that is broken, exactly where one is.
pub record IsVerdict (ints : Bool) (files : Files) (b : Body) (told : Verdict) : Type 0 where
  pub mode : IsModeBy ints files b told.mode
  pub broken : IfSome told.broken (IsOutOfRange ints files b)
  pub breaks : (x : BrokenAt) → IsOutOfRange ints files b x → told.broken ≡ Some x
