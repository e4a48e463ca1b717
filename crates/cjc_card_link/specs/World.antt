-- What crates above take of LowerWorld.
pub use Rattle.cjc_card_frame.specs.LowerWorld.Added as Added
pub use Rattle.cjc_card_frame.specs.LowerWorld.Classes as Classes
pub use Rattle.cjc_card_frame.specs.LowerWorld.Files as Files
pub use Rattle.cjc_card_frame.specs.LowerWorld.Order as Order
pub use Rattle.cjc_card_frame.specs.LowerWorld.Rules as Rules
pub use Rattle.cjc_card_frame.specs.LowerWorld.declared as declared
