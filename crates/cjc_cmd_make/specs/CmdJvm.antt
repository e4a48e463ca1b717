-- What crates above take of CmdJvm.
pub use Rattle.cjc_cmd_card.specs.CmdJvm.Running as Running
pub use Rattle.cjc_cmd_card.specs.CmdJvm.Runs as Runs
pub use Rattle.cjc_cmd_card.specs.CmdJvm.declared as declared
