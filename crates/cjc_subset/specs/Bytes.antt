-- What crates above take of cjc_bytes.
pub use Rattle.cjc_bytes.specs.AccessFlags as AccessFlags
pub use Rattle.cjc_bytes.specs.Breaks as Breaks
pub use Rattle.cjc_bytes.specs.Descriptor as Descriptor
pub use Rattle.cjc_bytes.specs.Spots as Spots
pub use Rattle.cjc_bytes.specs.declared as declared
