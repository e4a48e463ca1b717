-- What crates above take of World.
pub use Rattle.cjc_flow.specs.World.Classes as Classes
pub use Rattle.cjc_flow.specs.World.Files as Files
pub use Rattle.cjc_flow.specs.World.Order as Order
pub use Rattle.cjc_flow.specs.World.declared as declared
