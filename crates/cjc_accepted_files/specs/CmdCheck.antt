-- What crates above take of cjc_cmd_check.
pub use Rattle.cjc_cmd_card.specs.CmdCheck.Folder as Folder
