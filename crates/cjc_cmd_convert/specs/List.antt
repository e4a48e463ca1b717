-- What crates above take of List.
pub use Rattle.cjc_convert.specs.List.Listed as Listed
