-- What crates above take of World.
pub use Rattle.cjc_card_link.specs.World.Classes as Classes
pub use Rattle.cjc_card_link.specs.World.Files as Files
pub use Rattle.cjc_card_link.specs.World.Order as Order
pub use Rattle.cjc_card_link.specs.World.Rules as Rules
pub use Rattle.cjc_card_link.specs.World.declared as declared
