-- What crates above take of Fixpoint.
pub use Rattle.cjc_vtable.specs.Fixpoint.Walks as Walks
pub use Rattle.cjc_vtable.specs.Fixpoint.Working as Working
