-- What crates above take of Range.
pub use Rattle.cjc_jvm_semantics.specs.Range.Words as Words
