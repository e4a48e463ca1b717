-- What crates above take of CapRead.
pub use Rattle.cjc_card_acts.specs.CapRead.declared as declared
