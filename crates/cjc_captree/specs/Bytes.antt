-- What crates above take of Bytes.
pub use Rattle.cjc_exported.specs.Bytes.Breaks as Breaks
pub use Rattle.cjc_exported.specs.Bytes.Format as Format
pub use Rattle.cjc_exported.specs.Bytes.Order as Order
pub use Rattle.cjc_exported.specs.Bytes.Refused as Refused
pub use Rattle.cjc_exported.specs.Bytes.declared as declared
