use Rattle.cjc_cmd_convert.proofs.conversion.laws.one_answer.Goals as goal

pub returns-clause-refused : goal.returns-clause-refused
returns-clause-refused c = c.one_answer.ensures.refused

pub returns-clause-converted : goal.returns-clause-converted
returns-clause-converted c = c.one_answer.ensures.converted

pub returns-clause-not_both : goal.returns-clause-not_both
returns-clause-not_both c = c.one_answer.ensures.not_both
