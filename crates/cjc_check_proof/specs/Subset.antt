-- What crates above take of Subset.
pub use Rattle.cjc_vtable.specs.Subset.Types as Types
