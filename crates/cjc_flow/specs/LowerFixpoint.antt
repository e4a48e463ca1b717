-- What crates above take of cjc_fixpoint.
pub use Rattle.cjc_fixpoint.specs.Tables as Tables
pub use Rattle.cjc_fixpoint.specs.Walks as Walks
pub use Rattle.cjc_fixpoint.specs.Working as Working
