-- What crates above take of Bytes.
pub use Rattle.cjc_int_mode.specs.Bytes.AccessFlags as AccessFlags
pub use Rattle.cjc_int_mode.specs.Bytes.Breaks as Breaks
pub use Rattle.cjc_int_mode.specs.Bytes.Descriptor as Descriptor
pub use Rattle.cjc_int_mode.specs.Bytes.Spots as Spots
pub use Rattle.cjc_int_mode.specs.Bytes.declared as declared
