-- Class_refs that are written for a package are read back from the nibbles of types as the classes that they name, so a
-- subtype by name is one by token.
use Rattle.std.proofs.Common.{◌∙◌, ℕ, List}
use Rattle.cjc_verified_proof.specs.CapRead.declared.tree.ClassRef.{ClassRef}
use Rattle.cjc_verified_proof.specs.CapRead.declared.tree.ClassRef.TheVariants.{Inside, Outside}
use Rattle.cjc_accepted_proof.proofs.CheckProofRefs.{class_fits}
use Rattle.cjc_theorem.specs.CheckProof.Limits.Premises.{IsLimited}
use Rattle.cjc_verified_proof.specs.Components.Names.{class_ref}
use Rattle.cjc_verified_proof.specs.Components.Package.{Package, world}
use Rattle.cjc_accepted_proof.specs.CapWrite.Fits.{ClassFits}
use Rattle.cjc_verified_proof.proofs.TokenProofAbove.{says_kinds}
use Rattle.cjc_verified_proof.specs.TokenProof.Tables.Loading.{naming}
use Rattle.cjc_verified_proof.specs.TokenProof.Tables.Sound.{IsSound}
use Rattle.cjc_verified_proof.proofs.PlaceLaws.{all_read}
use Rattle.cjc_verified_proof.specs.Entries.{IsRef}
use Rattle.cjc_accepted_proof.specs.Read.{RefsAreRead}

-- a class_ref that fits its two bytes
is_ref : (r : ClassRef) → ClassFits r → IsRef r
is_ref (Inside offset) fits = fits
is_ref (Outside import class) fits = fits

pub refs_read : (list : List ℕ) (p : Package) → IsSound list p.files → IsLimited p → RefsAreRead (world p) (naming p)
refs_read list p sound limited c has =
    let kinds = says_kinds list p sound in
    all_read (let n = naming p in n.loaded) (class_ref p c) (is_ref (class_ref p c) (class_fits p limited c))
    ∙ kinds.class_ref c has
