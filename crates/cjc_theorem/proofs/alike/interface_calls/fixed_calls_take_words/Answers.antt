use Rattle.cjc_theorem.proofs.AlikeLaws.InterfaceCalls.Words.{special_takes, static_takes}
use Rattle.cjc_theorem.proofs.alike.interface_calls.fixed_calls_take_words.Goals as goal

pub returns-clause-statics : goal.returns-clause-statics
returns-clause-statics c = λ list codes p is class id of. static_takes list codes p is class id of

pub returns-clause-specials : goal.returns-clause-specials
returns-clause-specials c = λ list codes p is class id of. special_takes list codes p is class id of
