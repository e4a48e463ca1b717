-- What crates above take of VTable.
pub use Rattle.cjc_components.specs.VTable.Tables as Tables
