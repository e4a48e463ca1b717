-- What crates above take of CapRead.
pub use Rattle.cjc_verify_theorem.specs.CapRead.declared as declared
