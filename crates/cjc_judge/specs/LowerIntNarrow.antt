-- What crates above take of cjc_int_narrow.
pub use Rattle.cjc_int_narrow.specs.Constants as Constants
