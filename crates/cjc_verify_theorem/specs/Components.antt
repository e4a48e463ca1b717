-- What crates above take of Components.
pub use Rattle.cjc_theorem.specs.Components.Paired as Paired
