-- What crates above take of World.
pub use Rattle.cjc_int_mode.specs.World.Classes as Classes
pub use Rattle.cjc_int_mode.specs.World.Files as Files
pub use Rattle.cjc_int_mode.specs.World.Order as Order
pub use Rattle.cjc_int_mode.specs.World.declared as declared
