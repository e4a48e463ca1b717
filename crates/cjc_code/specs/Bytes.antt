-- What crates above take of cjc_bytes.
pub use Rattle.cjc_bytes.specs.AccessFlags as AccessFlags
pub use Rattle.cjc_bytes.specs.Descriptor as Descriptor
pub use Rattle.cjc_bytes.specs.Format as Format
pub use Rattle.cjc_bytes.specs.Found as Found
pub use Rattle.cjc_bytes.specs.Reading as Reading
pub use Rattle.cjc_bytes.specs.Refused as Refused
pub use Rattle.cjc_bytes.specs.Spots as Spots
pub use Rattle.cjc_bytes.specs.declared as declared
