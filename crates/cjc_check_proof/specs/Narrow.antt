-- What crates above take of Narrow.
pub use Rattle.cjc_components.specs.Narrow.Pairs as Pairs
