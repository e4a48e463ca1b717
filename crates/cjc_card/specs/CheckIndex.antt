-- What crates above take of CheckIndex.
pub use Rattle.cjc_card_calls.specs.CheckIndex.Lookup as Lookup
