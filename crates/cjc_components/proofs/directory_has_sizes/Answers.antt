use Rattle.std.proofs.Common.{refl}
use Rattle.cjc_capwrite.specs.Package.{directory_bytes}
use Rattle.cjc_components.proofs.directory_has_sizes.Goals as goal

-- Directory has as many bytes whatever sizes it has
pub returns : goal.returns
unfolding directory_bytes
returns c p = refl
