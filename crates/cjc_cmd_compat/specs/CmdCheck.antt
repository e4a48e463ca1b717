-- What crates above take of cjc_cmd_check.
pub use Rattle.cjc_cmd_check.specs.Check as Check
pub use Rattle.cjc_cmd_check.specs.declared as declared
