-- What crates above take of LowerVTable.
pub use Rattle.cjc_classes.specs.LowerVTable.Tables as Tables
pub use Rattle.cjc_classes.specs.LowerVTable.declared as declared
