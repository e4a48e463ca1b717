-- What crates above take of LowerClassFile.
pub use Rattle.cjc_code.specs.LowerClassFile.Code as Code
pub use Rattle.cjc_code.specs.LowerClassFile.declared as declared
