-- What crates above take of cjc_bytes.
pub use Rattle.cjc_bytes.specs.AccessFlags as AccessFlags
pub use Rattle.cjc_bytes.specs.Breaks as Breaks
pub use Rattle.cjc_bytes.specs.Format as Format
pub use Rattle.cjc_bytes.specs.Order as Order
pub use Rattle.cjc_bytes.specs.Refused as Refused
pub use Rattle.cjc_bytes.specs.Told as Told
pub use Rattle.cjc_bytes.specs.declared as declared
