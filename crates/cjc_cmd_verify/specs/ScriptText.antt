-- What crates above take of LowerScriptText.
pub use Rattle.cjc_cmd_card.specs.LowerScriptText.Printed as Printed
pub use Rattle.cjc_cmd_card.specs.LowerScriptText.Scripted as Scripted
