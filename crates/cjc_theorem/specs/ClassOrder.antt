-- What crates above take of ClassOrder.
pub use Rattle.cjc_vtable.specs.ClassOrder.Classes as Classes
