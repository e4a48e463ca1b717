use Rattle.cjc_theorem.proofs.SoundRuns.Ranges.{ranges_pass}
use Rattle.cjc_theorem.proofs.sound_runs.numbers_of_sound_packages_fit.Goals as goal

pub returns : goal.returns
returns c = λ list files judged is short k code is_code class method tree of table is_table ranges least. ranges_pass
    list files judged is k code is_code class method tree of short table is_table ranges least
