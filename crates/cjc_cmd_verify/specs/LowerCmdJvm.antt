-- What crates above take of CmdJvm.
pub use Rattle.cjc_cmd_card.specs.CmdJvm.Running as Running
