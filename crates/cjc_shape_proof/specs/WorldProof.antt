-- What crates above take of WorldProof.
pub use Rattle.cjc_check_proof.specs.WorldProof.Calls as Calls
pub use Rattle.cjc_check_proof.specs.WorldProof.Files as Files
pub use Rattle.cjc_check_proof.specs.WorldProof.Initialisers as Initialisers
