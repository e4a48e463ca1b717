-- What crates above take of cjc_world_proof.
pub use Rattle.cjc_world_proof.specs.Calls as Calls
pub use Rattle.cjc_world_proof.specs.Files as Files
pub use Rattle.cjc_world_proof.specs.Initialisers as Initialisers
