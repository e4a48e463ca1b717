use Rattle.cjc_theorem.proofs.alike.joined_laws.converted_components_run_by_token.Goals as goal
use Rattle.cjc_token_proof.specs.WrittenSends.Named.{is_called}

pub returns : goal.returns
returns c = λ list files judged p is sends. c.converted_packages_run_by_token.ensures list files judged p is
    (is_called p) (c.converted_packages_are_joined.ensures list files judged p is sends)
