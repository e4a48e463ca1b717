-- What crates above take of CapRead.
pub use Rattle.cjc_check_index.specs.CapRead.declared as declared
