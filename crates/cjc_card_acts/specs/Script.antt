-- What crates above take of LowerScript.
pub use Rattle.cjc_card_frame.specs.LowerScript.Sorts as Sorts
