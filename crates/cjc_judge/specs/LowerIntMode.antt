-- What crates above take of cjc_int_mode.
pub use Rattle.cjc_int_mode.specs.Modes as Modes
pub use Rattle.cjc_int_mode.specs.declared as declared
