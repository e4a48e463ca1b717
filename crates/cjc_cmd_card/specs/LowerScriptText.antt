-- What crates above take of LowerScriptText.
pub use Rattle.cjc_cmd_jvm.specs.LowerScriptText.Printed as Printed
pub use Rattle.cjc_cmd_jvm.specs.LowerScriptText.Scripted as Scripted
