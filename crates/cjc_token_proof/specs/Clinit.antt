-- What crates above take of LowerClinit.
pub use Rattle.cjc_world_proof.specs.LowerClinit.Fields as Fields
pub use Rattle.cjc_world_proof.specs.LowerClinit.Image as Image
pub use Rattle.cjc_world_proof.specs.LowerClinit.Initialiser as Initialiser
pub use Rattle.cjc_world_proof.specs.LowerClinit.Rules as Rules
pub use Rattle.cjc_world_proof.specs.LowerClinit.declared as declared
