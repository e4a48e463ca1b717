-- What crates above take of ExportFile.
pub use Rattle.cjc_verify_theorem.specs.ExportFile.declared as declared
