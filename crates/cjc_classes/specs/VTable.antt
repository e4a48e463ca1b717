-- What crates above take of LowerVTable.
pub use Rattle.cjc_components.specs.LowerVTable.Tables as Tables
pub use Rattle.cjc_components.specs.LowerVTable.declared as declared
