-- What crates above take of Bytes.
pub use Rattle.cjc_card_frame.specs.Bytes.Breaks as Breaks
pub use Rattle.cjc_card_frame.specs.Bytes.Format as Format
pub use Rattle.cjc_card_frame.specs.Bytes.Order as Order
pub use Rattle.cjc_card_frame.specs.Bytes.Refused as Refused
pub use Rattle.cjc_card_frame.specs.Bytes.declared as declared
