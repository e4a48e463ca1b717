-- What crates above take of LowerCmdJvm.
pub use Rattle.cjc_cmd_card.specs.LowerCmdJvm.Running as Running
pub use Rattle.cjc_cmd_card.specs.LowerCmdJvm.Runs as Runs
pub use Rattle.cjc_cmd_card.specs.LowerCmdJvm.declared as declared
