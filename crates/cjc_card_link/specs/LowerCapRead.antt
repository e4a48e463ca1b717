-- What crates above take of CapRead.
pub use Rattle.cjc_card_semantics.specs.CapRead.declared as declared
