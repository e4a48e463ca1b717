use Rattle.cjc_accepted_theorem.proofs.OwnMethodsLaws.{called_entry}
use Rattle.cjc_accepted_theorem.proofs.entries.own_methods_are_named.Goals as goal

pub returns : goal.returns
returns c = λ list files judged p is. called_entry list judged.codes p is.of_files is.methods
