-- What crates above take of LowerClassFile.
pub use Rattle.cjc_types.specs.LowerClassFile.Code as Code
pub use Rattle.cjc_types.specs.LowerClassFile.declared as declared
