-- What crates above take of List.
pub use Rattle.cjc_verify_theorem.specs.List.Listed as Listed
