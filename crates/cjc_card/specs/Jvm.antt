-- What crates above take of cjc_jvm.
pub use Rattle.cjc_jvm.specs.States as States
