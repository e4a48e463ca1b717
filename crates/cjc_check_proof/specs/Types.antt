-- What crates above take of Types.
pub use Rattle.cjc_pool.specs.Types.Flow as Flow
pub use Rattle.cjc_pool.specs.Types.Rules as Rules
pub use Rattle.cjc_pool.specs.Types.Search as Search
pub use Rattle.cjc_pool.specs.Types.Steps as Steps
pub use Rattle.cjc_pool.specs.Types.Tables as Tables
pub use Rattle.cjc_pool.specs.Types.TypeLaws as TypeLaws
pub use Rattle.cjc_pool.specs.Types.Types as Types
pub use Rattle.cjc_pool.specs.Types.declared as declared
