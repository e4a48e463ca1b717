use Rattle.cjc_components.specs.Package.{world}
use Rattle.cjc_token_proof.proofs.TablesLaws.Above.{info_of_name}
use Rattle.cjc_token_proof.proofs.WrittenCalls.Placed.{placed_by_name}
use Rattle.cjc_world.proofs.Cycles.{class_named-name}
use Rattle.cjc_token_proof.proofs.written_calls.interface_methods_are_named.Goals as goal

pub returns : goal.returns
returns c = λ list p sound id i known own interface_here. placed_by_name p id i (info_of_name list p sound id.class i
    known own) (class_named-name (world p) id.class i known) interface_here
