-- What crates above take of ScriptText.
pub use Rattle.cjc_cmd_jvm.specs.ScriptText.Printed as Printed
pub use Rattle.cjc_cmd_jvm.specs.ScriptText.Scripted as Scripted
