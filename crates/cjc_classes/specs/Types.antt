-- What crates above take of LowerTypes.
pub use Rattle.cjc_components.specs.LowerTypes.Flow as Flow
pub use Rattle.cjc_components.specs.LowerTypes.Rules as Rules
pub use Rattle.cjc_components.specs.LowerTypes.Steps as Steps
pub use Rattle.cjc_components.specs.LowerTypes.Tables as Tables
pub use Rattle.cjc_components.specs.LowerTypes.Types as Types
pub use Rattle.cjc_components.specs.LowerTypes.declared as declared
