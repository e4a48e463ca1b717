-- What crates above take of cjc_cmd_card.
pub use Rattle.cjc_cmd_card.specs.Report as Report
pub use Rattle.cjc_cmd_card.specs.Running as Running
pub use Rattle.cjc_cmd_card.specs.declared as declared
