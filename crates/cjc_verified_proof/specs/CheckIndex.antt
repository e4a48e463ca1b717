-- What crates above take of CheckIndex.
pub use Rattle.cjc_verify.specs.CheckIndex.Lookup as Lookup
