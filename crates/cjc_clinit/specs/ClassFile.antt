-- What crates above take of LowerClassFile.
pub use Rattle.cjc_subset.specs.LowerClassFile.declared as declared
