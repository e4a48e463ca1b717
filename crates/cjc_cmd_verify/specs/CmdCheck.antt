-- What crates above take of LowerCmdCheck.
pub use Rattle.cjc_cmd_card.specs.LowerCmdCheck.Check as Check
pub use Rattle.cjc_cmd_card.specs.LowerCmdCheck.declared as declared
