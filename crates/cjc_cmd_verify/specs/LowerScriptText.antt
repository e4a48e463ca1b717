-- What crates above take of ScriptText.
pub use Rattle.cjc_cmd_card.specs.ScriptText.Printed as Printed
pub use Rattle.cjc_cmd_card.specs.ScriptText.Scripted as Scripted
