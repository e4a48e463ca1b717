-- What crates above take of cjc_link_semantics.
pub use Rattle.cjc_link_semantics.specs.Loaded as Loaded
