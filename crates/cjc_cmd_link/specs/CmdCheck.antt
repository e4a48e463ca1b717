-- What crates above take of CmdCheck.
pub use Rattle.cjc_cmd_verify.specs.CmdCheck.Check as Check
pub use Rattle.cjc_cmd_verify.specs.CmdCheck.declared as declared
