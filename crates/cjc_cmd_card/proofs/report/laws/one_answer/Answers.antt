use Rattle.cjc_cmd_card.proofs.ReportLaws.OneAnswer.{never_both, one_refusal_of_runs}
use Rattle.cjc_cmd_card.proofs.report.laws.one_answer.Goals as goal

pub returns-clause-one : goal.returns-clause-one
returns-clause-one c = λ n script input r s f g. one_refusal_of_runs n script input r s f g

pub returns-clause-not_both : goal.returns-clause-not_both
returns-clause-not_both c = λ n script input todo r made f. never_both c.consistent_where_unbroken.ensures.unbroken n
    script input todo r made f
