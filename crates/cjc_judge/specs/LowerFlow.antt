-- What crates above take of cjc_flow.
pub use Rattle.cjc_flow.specs.Tests as Tests
pub use Rattle.cjc_flow.specs.declared as declared
