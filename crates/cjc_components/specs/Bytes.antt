-- What crates above take of Bytes.
pub use Rattle.cjc_list.specs.Bytes.Breaks as Breaks
pub use Rattle.cjc_list.specs.Bytes.declared as declared
