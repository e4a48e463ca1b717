use Rattle.std.proofs.Common.{◌∙◌, ap}
use Rattle.cjc_int_runs.specs.IntFrames.{StandsByMode, in_int_mode}
use Rattle.cjc_int_runs.proofs.IntFrames.{by_rule}
use Rattle.cjc_int_runs.proofs.runs.int_frames_follow.Goals as goal

pub returns : goal.returns
returns c = λ by l tb bodies results narrowed may_throw b f g is memory store stores stands i few rule.
    by_rule by l (StandsByMode l tb bodies) results narrowed may_throw b f
    (λ memory inner narrow same stands. in_int_mode b (ap bodies same ∙ is) stands) g stands.code memory store stores
    stands i few rule
