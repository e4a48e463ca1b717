-- A package beside the components that are written for it.
use Rattle.cjc_verify.specs.Components.Package.{Package, has_applets}
use Rattle.cjc_check_proof.specs.TokenProof.Tables.Loading.{components}
use Rattle.cjc_verify.specs.Pairs.{Pair, pair_of}

-- what is written for a package, beside it
abbrev pub written_pair : Package → Pair
written_pair p = pair_of (has_applets p) p.files p.image (components p)
