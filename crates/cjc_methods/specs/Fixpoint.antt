-- What crates above take of Fixpoint.
pub use Rattle.cjc_pool.specs.Fixpoint.Working as Working
