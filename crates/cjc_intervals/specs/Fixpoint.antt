-- What crates above take of cjc_fixpoint.
pub use Rattle.cjc_fixpoint.specs.Tables as Tables
