-- What crates above take of Bytes.
pub use Rattle.cjc_theorem.specs.Bytes.Breaks as Breaks
pub use Rattle.cjc_theorem.specs.Bytes.Format as Format
pub use Rattle.cjc_theorem.specs.Bytes.Refused as Refused
pub use Rattle.cjc_theorem.specs.Bytes.declared as declared
