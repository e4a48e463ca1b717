use Rattle.cjc_components.specs.Package.{world}
use Rattle.cjc_tables_by_token.proofs.Above.{info_of_name}
use Rattle.cjc_written_calls.proofs.SupertypeTrees.{name_is}
use Rattle.cjc_written_calls.proofs.Placed.{placed_by_name}
use Rattle.cjc_written_calls.proofs.interface_methods_are_named.Goals as goal

pub returns : goal.returns
returns c = λ list p sound id i known own interface_here. placed_by_name p id i (info_of_name list p sound id.class i known own) (name_is (world p) id.class i known) interface_here
