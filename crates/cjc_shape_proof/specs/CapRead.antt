-- What crates above take of CapRead.
pub use Rattle.cjc_check_proof.specs.CapRead.declared as declared
