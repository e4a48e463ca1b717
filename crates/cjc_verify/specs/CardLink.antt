-- What crates above take of LowerCardLink.
pub use Rattle.cjc_card_calls.specs.LowerCardLink.Indices as Indices
