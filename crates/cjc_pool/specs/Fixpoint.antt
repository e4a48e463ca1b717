-- What crates above take of Fixpoint.
pub use Rattle.cjc_narrow.specs.Fixpoint.Walks as Walks
pub use Rattle.cjc_narrow.specs.Fixpoint.Working as Working
