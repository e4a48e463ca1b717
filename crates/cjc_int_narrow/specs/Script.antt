-- What crates above take of Script.
pub use Rattle.cjc_int_mode.specs.Script.Sorts as Sorts
