-- What crates above take of Bytes.
pub use Rattle.cjc_subset.specs.Bytes.AccessFlags as AccessFlags
pub use Rattle.cjc_subset.specs.Bytes.Breaks as Breaks
pub use Rattle.cjc_subset.specs.Bytes.Descriptor as Descriptor
pub use Rattle.cjc_subset.specs.Bytes.Spots as Spots
pub use Rattle.cjc_subset.specs.Bytes.declared as declared
