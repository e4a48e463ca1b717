-- What crates above take of World.
pub use Rattle.cjc_card_frame.specs.World.Classes as Classes
pub use Rattle.cjc_card_frame.specs.World.Files as Files
pub use Rattle.cjc_card_frame.specs.World.Order as Order
pub use Rattle.cjc_card_frame.specs.World.Rules as Rules
pub use Rattle.cjc_card_frame.specs.World.declared as declared
