-- What crates above take of Flow.
pub use Rattle.cjc_judge.specs.Flow.Tests as Tests
pub use Rattle.cjc_judge.specs.Flow.declared as declared
