-- What crates above take of Bytes.
pub use Rattle.cjc_ncode.specs.Bytes.Breaks as Breaks
pub use Rattle.cjc_ncode.specs.Bytes.declared as declared
