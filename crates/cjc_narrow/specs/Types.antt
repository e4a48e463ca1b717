-- What crates above take of cjc_types.
pub use Rattle.cjc_types.specs.Flow as Flow
pub use Rattle.cjc_types.specs.Marks as Marks
pub use Rattle.cjc_types.specs.Rules as Rules
pub use Rattle.cjc_types.specs.Search as Search
pub use Rattle.cjc_types.specs.Steps as Steps
pub use Rattle.cjc_types.specs.Tables as Tables
pub use Rattle.cjc_types.specs.TypeLaws as TypeLaws
pub use Rattle.cjc_types.specs.Types as Types
pub use Rattle.cjc_types.specs.declared as declared
