use Rattle.cjc_accepted_theorem.proofs.CaughtLaws.{catches_named}
use Rattle.cjc_accepted_theorem.proofs.coded.converted_handlers_are_named.Goals as goal

pub returns : goal.returns
returns c = λ list files judged p is m b. catches_named list judged.codes p is.of_files m b
