-- What crates above take of CheckIndex.
pub use Rattle.cjc_verified_proof.specs.CheckIndex.Lookup as Lookup
