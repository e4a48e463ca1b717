-- What crates above take of Range.
pub use Rattle.cjc_jvm_step.specs.Range.Words as Words
