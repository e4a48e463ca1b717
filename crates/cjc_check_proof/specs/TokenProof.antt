-- What crates above take of cjc_token_proof.
pub use Rattle.cjc_token_proof.specs.ByToken as ByToken
pub use Rattle.cjc_token_proof.specs.Calls as Calls
pub use Rattle.cjc_token_proof.specs.Components as Components
pub use Rattle.cjc_token_proof.specs.Tables as Tables
pub use Rattle.cjc_token_proof.specs.WrittenCalls as WrittenCalls
pub use Rattle.cjc_token_proof.specs.WrittenSends as WrittenSends
