-- What crates above take of LowerFixpoint.
pub use Rattle.cjc_flow.specs.LowerFixpoint.Tables as Tables
pub use Rattle.cjc_flow.specs.LowerFixpoint.Walks as Walks
pub use Rattle.cjc_flow.specs.LowerFixpoint.Working as Working
