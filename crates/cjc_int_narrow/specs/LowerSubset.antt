-- What crates above take of LowerSubset.
pub use Rattle.cjc_int_mode.specs.LowerSubset.Ints as Ints
