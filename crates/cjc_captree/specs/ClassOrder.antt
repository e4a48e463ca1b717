-- What crates above take of ClassOrder.
pub use Rattle.cjc_classes.specs.ClassOrder.Classes as Classes
