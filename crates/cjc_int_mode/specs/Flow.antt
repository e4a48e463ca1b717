-- What crates above take of cjc_flow.
pub use Rattle.cjc_flow.specs.Constants as Constants
pub use Rattle.cjc_flow.specs.Tables as Tables
pub use Rattle.cjc_flow.specs.Tests as Tests
