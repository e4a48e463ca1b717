use Rattle.std.proofs.Common.{refl}
use Rattle.cjc_check_proof.specs.LowerCapWrite.Package.{directory_bytes, header_bytes}
use Rattle.cjc_int_components.proofs.packages.directory_has_sizes_by_modes.Goals as goal

-- Directory and Header have as many bytes whatever sizes and flags they have
pub returns : goal.returns
unfolding directory_bytes header_bytes
returns c t p = refl
