-- What crates above take of CardActs.
pub use Rattle.cjc_verify.specs.CardActs.CardTypes as CardTypes
