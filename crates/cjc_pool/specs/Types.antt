-- What crates above take of Types.
pub use Rattle.cjc_narrow.specs.Types.Flow as Flow
pub use Rattle.cjc_narrow.specs.Types.Rules as Rules
pub use Rattle.cjc_narrow.specs.Types.Search as Search
pub use Rattle.cjc_narrow.specs.Types.Steps as Steps
pub use Rattle.cjc_narrow.specs.Types.Tables as Tables
pub use Rattle.cjc_narrow.specs.Types.TypeLaws as TypeLaws
pub use Rattle.cjc_narrow.specs.Types.Types as Types
pub use Rattle.cjc_narrow.specs.Types.declared as declared
