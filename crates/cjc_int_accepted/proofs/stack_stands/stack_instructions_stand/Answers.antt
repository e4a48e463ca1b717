use Rattle.cjc_int_accepted.proofs.StackStandsLaws.{stack_stands}
use Rattle.cjc_int_accepted.proofs.stack_stands.stack_instructions_stand.Goals as goal

pub returns : goal.returns
returns c = stack_stands
