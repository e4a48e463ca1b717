-- What crates above take of LowerCmdCard.
pub use Rattle.cjc_cmd_verify.specs.LowerCmdCard.Report as Report
pub use Rattle.cjc_cmd_verify.specs.LowerCmdCard.Running as Running
pub use Rattle.cjc_cmd_verify.specs.LowerCmdCard.declared as declared
