use Rattle.cjc_shelf.proofs.CommandLaws.OneAnswer.{one_end_over, one_refusal_over}
use Rattle.cjc_run.specs.Command.{command_of}
use Rattle.cjc_run.proofs.OneStatus.{makes_once}
use Rattle.cjc_run.proofs.laws.one_status.Goals as goal

pub returns-clause-one : goal.returns-clause-one
returns-clause-one c = λ asked files. one_end_over (command_of asked) (makes_once c.one_answer.ensures.refused
    c.one_answer.ensures.not_both c.one_answer-2.ensures.one c.one_answer-2.ensures.not_both c.one_answer-3.ensures.one
    c.one_answer-3.ensures.not_both c.one_answer-4.ensures.one c.one_answer-4.ensures.not_both asked) files

pub returns-clause-refused : goal.returns-clause-refused
returns-clause-refused c = λ asked files. one_refusal_over (command_of asked) (makes_once c.one_answer.ensures.refused
    c.one_answer.ensures.not_both c.one_answer-2.ensures.one c.one_answer-2.ensures.not_both c.one_answer-3.ensures.one
    c.one_answer-3.ensures.not_both c.one_answer-4.ensures.one c.one_answer-4.ensures.not_both asked) files
