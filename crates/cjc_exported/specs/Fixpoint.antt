-- What crates above take of Fixpoint.
pub use Rattle.cjc_components.specs.Fixpoint.Working as Working
