-- What crates above take of Script.
pub use Rattle.cjc_cmd_verify.specs.Script.declared as declared
