-- What crates above take of cjc_methods.
pub use Rattle.cjc_methods.specs.Ready as Ready
