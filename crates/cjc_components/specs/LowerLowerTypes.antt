-- What crates above take of LowerTypes.
pub use Rattle.cjc_narrow.specs.LowerTypes.Flow as Flow
pub use Rattle.cjc_narrow.specs.LowerTypes.Marks as Marks
pub use Rattle.cjc_narrow.specs.LowerTypes.Tables as Tables
pub use Rattle.cjc_narrow.specs.LowerTypes.declared as declared
