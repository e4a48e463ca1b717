use Rattle.cjc_cmd_make.proofs.ReportLaws.OneAnswer.{never_both, one_refusal}
use Rattle.cjc_cmd_make.proofs.report.laws.one_answer.Goals as goal

pub returns-clause-one : goal.returns-clause-one
returns-clause-one c = λ given r s f g. (let made = c.one_answer.ensures in let run = c.one_answer-2.ensures
    in one_refusal made.refused made.converted made.not_both run.one run.not_both given.0 given.1 r s f g)

pub returns-clause-not_both : goal.returns-clause-not_both
returns-clause-not_both c = λ given todo r made f. (let one = c.one_answer.ensures in let run = c.one_answer-2.ensures
    in never_both one.refused one.converted one.not_both run.one run.not_both given.0 given.1 todo r made f)
