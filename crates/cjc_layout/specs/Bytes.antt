-- What crates above take of LowerBytes.
pub use Rattle.cjc_ncode.specs.LowerBytes.declared as declared
