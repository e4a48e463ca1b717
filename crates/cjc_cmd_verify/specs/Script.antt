-- What crates above take of Script.
pub use Rattle.cjc_cmd_card.specs.Script.declared as declared
