use Rattle.cjc_tokens.proofs.Means.{token-means}
use Rattle.cjc_tokens.proofs.laws.interface_laws.Goals as goal

pub returns : goal.returns
returns c = λ applets files n class t s there interface low e. token-means files applets n class there t s interface low
    e
