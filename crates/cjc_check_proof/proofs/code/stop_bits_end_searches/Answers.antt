use Rattle.cjc_components.specs.Methods.{first_method}
use Rattle.cjc_components.specs.Names.{names}
use Rattle.cjc_check_proof.proofs.CodeLaws.Handlers.{stops_are}
use Rattle.cjc_check_proof.proofs.code.stop_bits_end_searches.Goals as goal

pub returns : goal.returns
returns c p can lie = stops_are (names p) (first_method p.methods) 1 p.methods can lie
