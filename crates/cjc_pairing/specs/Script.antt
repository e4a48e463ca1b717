-- What crates above take of Script.
pub use Rattle.cjc_card_link.specs.Script.declared as declared
