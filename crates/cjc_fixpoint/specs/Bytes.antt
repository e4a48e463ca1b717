-- What crates above take of cjc_bytes.
pub use Rattle.cjc_bytes.specs.Descriptor as Descriptor
pub use Rattle.cjc_bytes.specs.declared as declared
