-- What crates above take of cjc_types.
pub use Rattle.cjc_types.specs.Flow as Flow
pub use Rattle.cjc_types.specs.Marks as Marks
pub use Rattle.cjc_types.specs.Tables as Tables
pub use Rattle.cjc_types.specs.declared as declared
