-- What crates above take of LowerClassOrder.
pub use Rattle.cjc_vtable.specs.LowerClassOrder.Classes as Classes
pub use Rattle.cjc_vtable.specs.LowerClassOrder.Supers as Supers
