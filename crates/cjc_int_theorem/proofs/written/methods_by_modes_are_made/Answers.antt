use Rattle.std.specs.Prelude.{[]}
use Rattle.cjc_components.specs.Names.{unloaded}
use Rattle.cjc_int_theorem.proofs.Methods.{all_made, all_small}
use Rattle.cjc_int_theorem.proofs.written.methods_by_modes_are_made.Goals as goal

pub returns-clause-made : goal.returns-clause-made
returns-clause-made c = λ list codes t p is. all_made list codes t p is unloaded []

pub returns-clause-small : goal.returns-clause-small
returns-clause-small c = λ list codes t p is. all_small list codes t p is unloaded []
