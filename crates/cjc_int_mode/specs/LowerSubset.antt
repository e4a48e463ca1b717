-- What crates above take of cjc_subset.
pub use Rattle.cjc_subset.specs.Ints as Ints
