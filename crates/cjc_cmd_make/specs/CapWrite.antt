-- What crates above take of CapWrite.
pub use Rattle.cjc_cmd_convert.specs.CapWrite.Writable as Writable
pub use Rattle.cjc_cmd_convert.specs.CapWrite.declared as declared
