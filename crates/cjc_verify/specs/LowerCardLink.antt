-- What crates above take of CardLink.
pub use Rattle.cjc_card_calls.specs.CardLink.Indices as Indices
