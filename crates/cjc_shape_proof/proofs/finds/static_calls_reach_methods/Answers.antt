use Rattle.std.specs.Prelude.{[]}
use Rattle.cjc_shape_proof.proofs.FindsLaws.Whole.{static_is}
use Rattle.cjc_shape_proof.proofs.finds.static_calls_reach_methods.Goals as goal

pub returns : goal.returns
returns c = λ list files codes settings tables whole class id at. static_is list files codes settings tables whole
    (record { arrays = []; nulls = []; zeros = []; others = [] }) [] class id at
