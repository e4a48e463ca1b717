use Rattle.cjc_cmd_verify.proofs.VerifyingLaws.OneAnswer.{never_both, one_refusal}
use Rattle.cjc_cmd_verify.proofs.laws.one_answer.Goals as goal

pub returns-clause-one : goal.returns-clause-one
returns-clause-one c = λ input r s f g. one_refusal input r s f g

pub returns-clause-not_both : goal.returns-clause-not_both
returns-clause-not_both c = λ input todo r made f. never_both c.consistent_where_unbroken.ensures.unbroken input todo r
    made f
