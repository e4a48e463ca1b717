-- What crates above take of cjc_export.
pub use Rattle.cjc_export.specs.declared as declared
