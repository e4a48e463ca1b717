-- What crates above take of Types.
pub use Rattle.cjc_narrow.specs.Types.Flow as Flow
pub use Rattle.cjc_narrow.specs.Types.Tables as Tables
pub use Rattle.cjc_narrow.specs.Types.declared as declared
