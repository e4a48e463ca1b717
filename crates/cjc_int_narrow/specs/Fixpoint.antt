-- What crates above take of Fixpoint.
pub use Rattle.cjc_narrow.specs.Fixpoint.Tables as Tables
pub use Rattle.cjc_narrow.specs.Fixpoint.Working as Working
