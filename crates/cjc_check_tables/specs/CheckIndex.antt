-- What crates above take of cjc_check_index.
pub use Rattle.cjc_check_index.specs.Lookup as Lookup
