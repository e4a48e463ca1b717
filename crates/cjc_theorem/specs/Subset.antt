-- What crates above take of Subset.
pub use Rattle.cjc_token_proof.specs.Subset.Checks as Checks
