use Rattle.std.proofs.Common.{◌≡◌, Bool, List, Option, refl}
use Rattle.cjc_flow.specs.LowerTypes.declared.state.State.{State}
use Rattle.cjc_flow.specs.LowerTypes.Flow.{Body}
use Rattle.cjc_flow.specs.LowerIntervals.Frames.{RangeState}
use Rattle.cjc_int_mode.specs.declared.modes.Mode.{Mode}
use Rattle.cjc_int_mode.specs.declared.modes.Mode.TheVariants as modes
use Rattle.cjc_int_mode.specs.Modes.{IsModeOf}
use Rattle.cjc_int_mode.proofs.laws.methods_have_one_mode.Goals as goal

one_mode : (ints : Bool) (b : Body) (types : List (Option State)) (ranges : List (Option RangeState))
    (left right : Mode) → IsModeOf ints b types ranges left → IsModeOf ints b types ranges right → left ≡ right
one_mode ints b types ranges modes.Short modes.Short h k = refl
one_mode ints b types ranges modes.Short modes.Int h k = absurd (h k)
one_mode ints b types ranges modes.Int modes.Short h k = absurd (k h)
one_mode ints b types ranges modes.Int modes.Int h k = refl

pub returns-clause-one : goal.returns-clause-one
returns-clause-one c = one_mode

pub returns-clause-without : goal.returns-clause-without
returns-clause-without c = λ b types ranges h. (let no = h.allowed in absurd cc)

pub returns-clause-short : goal.returns-clause-short
returns-clause-short c = λ b types ranges h place rule yes breach. h place rule breach

pub returns-clause-passes : goal.returns-clause-passes
returns-clause-passes c = λ b types ranges h place rule breach. h place rule refl breach
