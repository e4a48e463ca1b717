-- What crates above take of LowerScript.
pub use Rattle.cjc_card_semantics.specs.LowerScript.Sorts as Sorts
pub use Rattle.cjc_card_semantics.specs.LowerScript.declared as declared
