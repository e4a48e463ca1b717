-- What crates above take of cjc_order.
pub use Rattle.cjc_order.specs.Classes as Classes
pub use Rattle.cjc_order.specs.Supers as Supers
