-- What crates above take of cjc_cmd_jvm.
pub use Rattle.cjc_cmd_jvm.specs.Running as Running
pub use Rattle.cjc_cmd_jvm.specs.Runs as Runs
pub use Rattle.cjc_cmd_jvm.specs.declared as declared
