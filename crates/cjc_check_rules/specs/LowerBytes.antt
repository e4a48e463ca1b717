-- What crates above take of Bytes.
pub use Rattle.cjc_export.specs.Bytes.AccessFlags as AccessFlags
pub use Rattle.cjc_export.specs.Bytes.Breaks as Breaks
pub use Rattle.cjc_export.specs.Bytes.Refused as Refused
pub use Rattle.cjc_export.specs.Bytes.Told as Told
pub use Rattle.cjc_export.specs.Bytes.declared as declared
