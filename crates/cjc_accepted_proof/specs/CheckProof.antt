-- What crates above take of cjc_check_proof.
pub use Rattle.cjc_check_proof.specs.Code as Code
pub use Rattle.cjc_check_proof.specs.Limits as Limits
