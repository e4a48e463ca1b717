-- What crates above take of CheckIndex.
pub use Rattle.cjc_pairing.specs.CheckIndex.Lookup as Lookup
