-- What crates above take of Script.
pub use Rattle.cjc_card_acts.specs.Script.Sorts as Sorts
