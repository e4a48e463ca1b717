-- What crates above take of Script.
pub use Rattle.cjc_cmd_convert.specs.Script.declared as declared
