-- What crates above take of VTable.
pub use Rattle.cjc_pairing.specs.VTable.Tables as Tables
pub use Rattle.cjc_pairing.specs.VTable.declared as declared
