-- What is left to show of a converted package, so that its components are consistent.
use Rattle.cjc_components.specs.Package.{Package, world}
use Rattle.cjc_shape_proof.specs.LowerCheckProof.Classes.Premises.{HaveInstalls, KeysAreKnown, TypesAreKnown}
use Rattle.cjc_shape_proof.specs.LowerCheckProof.Keys.{AllAreThere}
use Rattle.cjc_shape_proof.specs.LowerCheckProof.Exports.{ExportsHaveOneAccess}

-- What its code, its descriptors and its list name is there, and no method of an export file is private beside public
-- or protected.
pub record NamesAreMet (p : Package) : Type 0 where
  pub access : ExportsHaveOneAccess (world p)
  pub installs : HaveInstalls p
  pub classes : KeysAreKnown p
  pub types : TypesAreKnown p
  pub members : AllAreThere p
