-- What crates above take of ExportFile.
pub use Rattle.cjc_check_rules.specs.ExportFile.declared as declared
