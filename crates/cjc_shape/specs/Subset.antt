-- What crates above take of Subset.
pub use Rattle.cjc_narrow_proof.specs.Subset.Checks as Checks
