-- What crates above take of LowerCapRead.
pub use Rattle.cjc_cmd_check.specs.LowerCapRead.declared as declared
