-- What crates above take of LowerBytes.
pub use Rattle.cjc_fixpoint.specs.LowerBytes.Spots as Spots
pub use Rattle.cjc_fixpoint.specs.LowerBytes.declared as declared
