-- What crates above take of CheckIndex.
pub use Rattle.cjc_card_link.specs.CheckIndex.Lookup as Lookup
pub use Rattle.cjc_card_link.specs.CheckIndex.declared as declared
