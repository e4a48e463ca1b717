-- What crates above take of LowerFixpoint.
pub use Rattle.cjc_types.specs.LowerFixpoint.Kept as Kept
pub use Rattle.cjc_types.specs.LowerFixpoint.Tables as Tables
pub use Rattle.cjc_types.specs.LowerFixpoint.Walks as Walks
pub use Rattle.cjc_types.specs.LowerFixpoint.Working as Working
pub use Rattle.cjc_types.specs.LowerFixpoint.declared as declared
