use Rattle.std.proofs.lemmas.Result.{IfOk-weaker, MatchResult-weaker}
use Rattle.cjc_fitting_laws.proofs.Listed.{spelt}
use Rattle.cjc_judge.specs.Judged.{IsJudged, IsStopped}
use Rattle.cjc_prepared.specs.Prepared.{IsSound, tested}
use Rattle.cjc_whole.specs.Working.Shaped.{Stopped}
use Rattle.cjc_converting.proofs.Stops.{stopped_by_files}
use Rattle.cjc_converting.proofs.conversion.judge_files.Goals as goal

pub returns-clause-sound : goal.returns-clause-sound
returns-clause-sound c =
    let list = c.args.list.now in
    let files = c.args.files.now in
    let by = spelt list c.requires.read in
    IfOk-weaker c.judge.result (IsJudged list files tested) (IsSound list files) (λ judged is. record { judged_by = is; are_files = c.requires.bytes; no_int = by.no_ints }) c.judge.ensures.judged

pub returns-clause-refused : goal.returns-clause-refused
returns-clause-refused c =
    let list = c.args.list.now in
    let files = c.args.files.now in
    MatchResult-weaker c.judge.result {Q = IsStopped list files tested} {Q' = Stopped list files} c.judge.ensures.refused (λ _ h. h) (λ e h. stopped_by_files list files e h)
