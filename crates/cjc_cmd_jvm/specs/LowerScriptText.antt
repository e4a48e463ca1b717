-- What crates above take of cjc_script_text.
pub use Rattle.cjc_script_text.specs.Printed as Printed
pub use Rattle.cjc_script_text.specs.Scripted as Scripted
