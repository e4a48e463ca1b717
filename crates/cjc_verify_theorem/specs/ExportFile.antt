-- What crates above take of LowerExportFile.
pub use Rattle.cjc_verified_proof.specs.LowerExportFile.declared as declared
