-- What crates above take of List.
pub use Rattle.cjc_cmd_check.specs.List.Listed as Listed
pub use Rattle.cjc_cmd_check.specs.List.Spelling as Spelling
