-- What crates above take of LowerCheckIndex.
pub use Rattle.cjc_card_link.specs.LowerCheckIndex.Lookup as Lookup
pub use Rattle.cjc_card_link.specs.LowerCheckIndex.declared as declared
