-- What crates above take of cjc_int_proof.
pub use Rattle.cjc_int_proof.specs.Operands as Operands
