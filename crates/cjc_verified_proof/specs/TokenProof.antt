-- What crates above take of cjc_token_proof.
pub use Rattle.cjc_token_proof.specs.Tables as Tables
pub use Rattle.cjc_token_proof.specs.WrittenSends as WrittenSends
