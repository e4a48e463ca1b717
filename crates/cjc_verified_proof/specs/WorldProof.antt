-- What crates above take of LowerWorldProof.
pub use Rattle.cjc_token_proof.specs.LowerWorldProof.Calls as Calls
pub use Rattle.cjc_token_proof.specs.LowerWorldProof.Files as Files
pub use Rattle.cjc_token_proof.specs.LowerWorldProof.Initialisers as Initialisers
