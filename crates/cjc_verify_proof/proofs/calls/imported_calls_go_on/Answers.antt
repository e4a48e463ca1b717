use Rattle.std.proofs.Common.{refl}
use Rattle.cjc_verify_proof.proofs.ImportLaws.{outside_goes}
use Rattle.cjc_verify_proof.proofs.calls.imported_calls_go_on.Goals as goal

pub returns : goal.returns
returns c l program all has s t among result f w outer o on id types is receiver on_is params sorts results args words =
    outside_goes l program all has s.memory t among result f w outer o on id types is receiver on_is params sorts
    results args words s refl
