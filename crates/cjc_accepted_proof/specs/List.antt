-- What crates above take of List.
pub use Rattle.cjc_check_proof.specs.List.Listed as Listed
