-- What crates above take of cjc_fixpoint.
pub use Rattle.cjc_fixpoint.specs.Dataflow as Dataflow
pub use Rattle.cjc_fixpoint.specs.Kept as Kept
pub use Rattle.cjc_fixpoint.specs.Lattice as Lattice
pub use Rattle.cjc_fixpoint.specs.Tables as Tables
pub use Rattle.cjc_fixpoint.specs.Working as Working
pub use Rattle.cjc_fixpoint.specs.declared as declared
