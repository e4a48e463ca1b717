use Rattle.cjc_theorem.proofs.WholeRuns.Named.{are_named, converted}
use Rattle.cjc_theorem.proofs.whole_runs.instructions_fit_their_files.Goals as goal

pub returns-clause-named : goal.returns-clause-named
returns-clause-named c = λ list files codes settings tables whole image near m. are_named list files codes settings
    tables whole image near m

pub returns-clause-converted : goal.returns-clause-converted
returns-clause-converted c = λ list files codes settings tables whole image near first. converted list files codes
    settings tables whole image near first
