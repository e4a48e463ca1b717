-- What crates above take of LowerBytes.
pub use Rattle.cjc_code.specs.LowerBytes.AccessFlags as AccessFlags
pub use Rattle.cjc_code.specs.LowerBytes.Breaks as Breaks
pub use Rattle.cjc_code.specs.LowerBytes.Descriptor as Descriptor
pub use Rattle.cjc_code.specs.LowerBytes.Format as Format
pub use Rattle.cjc_code.specs.LowerBytes.Order as Order
pub use Rattle.cjc_code.specs.LowerBytes.Refused as Refused
pub use Rattle.cjc_code.specs.LowerBytes.Spots as Spots
pub use Rattle.cjc_code.specs.LowerBytes.declared as declared
