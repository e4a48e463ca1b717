-- The labels of instructions in the code that is written for a method in int mode.
use Rattle.std.specs.Prelude.{◌≡◌, ◌<◌, ℕ, List, slice_get, Some}
use Rattle.cjc_types.specs.Steps.{targets}
use Rattle.cjc_ncode.specs.Written.{Resolution}
use Rattle.cjc_ncode.specs.IntCode.IntCode.{Frame, Reached, place_in}

-- Something is written for each offset to which a reached instruction leads, or behind it.
abbrev pub LabelsStand : Frame → Resolution → List Reached → (count : ℕ) → Type 0
LabelsStand f r reached count = (k j o : ℕ) (i : Reached) → slice_get reached k ≡ Some i
    → slice_get (targets (let n = i.insn in n.op)) j ≡ Some o → place_in f r reached o < count
