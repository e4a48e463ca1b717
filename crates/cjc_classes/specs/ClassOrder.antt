-- What crates above take of LowerClassOrder.
pub use Rattle.cjc_components.specs.LowerClassOrder.Classes as Classes
pub use Rattle.cjc_components.specs.LowerClassOrder.Supers as Supers
