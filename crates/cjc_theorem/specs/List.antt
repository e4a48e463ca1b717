-- What crates above take of List.
pub use Rattle.cjc_components.specs.List.Listed as Listed
