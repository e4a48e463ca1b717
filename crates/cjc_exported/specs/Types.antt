-- What crates above take of LowerTypes.
pub use Rattle.cjc_components.specs.LowerTypes.Flow as Flow
pub use Rattle.cjc_components.specs.LowerTypes.Tables as Tables
pub use Rattle.cjc_components.specs.LowerTypes.declared as declared
