-- What crates above take of List.
pub use Rattle.cjc_captree.specs.List.Listed as Listed
