-- What crates above take of LowerClassOrder.
pub use Rattle.cjc_classes.specs.LowerClassOrder.Classes as Classes
