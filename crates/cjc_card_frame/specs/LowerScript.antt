-- What crates above take of Script.
pub use Rattle.cjc_card_semantics.specs.Script.Sorts as Sorts
