-- What crates above take of Script.
pub use Rattle.cjc_card_frame.specs.Script.Sorts as Sorts
