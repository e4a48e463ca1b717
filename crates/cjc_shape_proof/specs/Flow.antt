-- What crates above take of Flow.
pub use Rattle.cjc_shape.specs.Flow.Tests as Tests
pub use Rattle.cjc_shape.specs.Flow.declared as declared
