-- What crates above take of cjc_types.
pub use Rattle.cjc_types.specs.declared as declared
