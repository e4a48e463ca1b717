-- What crates above take of Bytes.
pub use Rattle.cjc_export.specs.Bytes.AccessFlags as AccessFlags
pub use Rattle.cjc_export.specs.Bytes.Descriptor as Descriptor
pub use Rattle.cjc_export.specs.Bytes.declared as declared
