use Rattle.cjc_check_proof.specs.TokenProof.WrittenSends.Named.{is_called}
use Rattle.cjc_int_theorem.proofs.joined.components_by_modes_run_by_token.Goals as goal

pub returns : goal.returns
returns c = λ list codes t p is sends. c.packages_by_modes_run_by_token.ensures list codes t p is
    (is_called p) (c.packages_by_modes_are_joined.ensures list codes t p is sends)
