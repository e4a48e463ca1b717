-- What crates above take of List.
pub use Rattle.cjc_verify.specs.List.Listed as Listed
