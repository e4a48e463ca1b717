-- What crates above take of Fixpoint.
pub use Rattle.cjc_vtable.specs.Fixpoint.Tables as Tables
pub use Rattle.cjc_vtable.specs.Fixpoint.Working as Working
