-- What crates above take of ClassOrder.
pub use Rattle.cjc_components.specs.ClassOrder.Classes as Classes
