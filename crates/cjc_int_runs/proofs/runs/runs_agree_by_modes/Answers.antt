use Rattle.cjc_int_runs.specs.IntFrames.{StandsByMode}
use Rattle.cjc_int_runs.proofs.ModeRuns.{modes_agree}
use Rattle.cjc_int_runs.proofs.runs.runs_agree_by_modes.Goals as goal

pub returns : goal.returns
returns c = λ by l tb bodies. modes_agree by l (StandsByMode l tb bodies)
