-- What crates above take of ScriptText.
pub use Rattle.cjc_cmd_verify.specs.ScriptText.Printed as Printed
