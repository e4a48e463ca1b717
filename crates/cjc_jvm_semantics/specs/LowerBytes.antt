-- What crates above take of Bytes.
pub use Rattle.cjc_code.specs.Bytes.Descriptor as Descriptor
pub use Rattle.cjc_code.specs.Bytes.declared as declared
