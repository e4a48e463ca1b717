use Rattle.cjc_check_proof.proofs.PromisesLaws.Nothing.{nothing_inside, nothing_named, nothing_written}
use Rattle.cjc_check_proof.proofs.promises.methods_without_code_can_be_written.Goals as goal

pub returns-clause-written : goal.returns-clause-written
returns-clause-written c n m none least = nothing_written n m none least

pub returns-clause-inside : goal.returns-clause-inside
returns-clause-inside c m abstract_one none = nothing_inside m abstract_one none

pub returns-clause-kinds : goal.returns-clause-kinds
returns-clause-kinds c m none k i e = nothing_named m none k i e
