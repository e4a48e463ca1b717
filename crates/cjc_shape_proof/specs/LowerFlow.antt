-- What crates above take of LowerFlow.
pub use Rattle.cjc_shape.specs.LowerFlow.Tests as Tests
pub use Rattle.cjc_shape.specs.LowerFlow.declared as declared
