-- What crates above take of LowerRange.
pub use Rattle.cjc_types.specs.LowerRange.Words as Words
