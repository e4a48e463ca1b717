-- What crates above take of LowerList.
pub use Rattle.cjc_components.specs.LowerList.Grammar as Grammar
pub use Rattle.cjc_components.specs.LowerList.Listed as Listed
