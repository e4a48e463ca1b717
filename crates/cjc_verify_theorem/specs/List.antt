-- What crates above take of List.
pub use Rattle.cjc_theorem.specs.List.Listed as Listed
