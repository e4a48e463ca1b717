-- What crates above take of CheckIndex.
pub use Rattle.cjc_check_tables.specs.CheckIndex.Lookup as Lookup
pub use Rattle.cjc_check_tables.specs.CheckIndex.declared as declared
