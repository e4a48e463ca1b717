-- What crates above take of LowerFixpoint.
pub use Rattle.cjc_tokens.specs.LowerFixpoint.Dataflow as Dataflow
pub use Rattle.cjc_tokens.specs.LowerFixpoint.Tables as Tables
pub use Rattle.cjc_tokens.specs.LowerFixpoint.Walks as Walks
pub use Rattle.cjc_tokens.specs.LowerFixpoint.Working as Working
