-- What crates above take of CapRead.
pub use Rattle.cjc_cmd_verify.specs.CapRead.declared as declared
