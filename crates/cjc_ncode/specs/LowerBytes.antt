-- What crates above take of Bytes.
pub use Rattle.cjc_code.specs.Bytes.Refused as Refused
pub use Rattle.cjc_code.specs.Bytes.declared as declared
