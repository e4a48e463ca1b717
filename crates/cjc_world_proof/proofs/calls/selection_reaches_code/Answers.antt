use Rattle.cjc_world_proof.proofs.CallsLaws.Selects.{is_selected, on_object}
use Rattle.cjc_world.specs.Lookup.{receiver}
use Rattle.cjc_world_proof.proofs.calls.selection_reaches_code.Goals as goal

pub returns : goal.returns
returns c = λ files solid type r id plain d i m below named e name desc wanted far. on_object files solid type r id
    (is_selected files solid (receiver type) r id plain d i m below named e name desc wanted far)
