-- What crates above take of Script.
pub use Rattle.cjc_check_proof.specs.Script.Sorts as Sorts
