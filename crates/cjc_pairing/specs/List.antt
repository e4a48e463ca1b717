-- What crates above take of LowerList.
pub use Rattle.cjc_classes.specs.LowerList.Listed as Listed
