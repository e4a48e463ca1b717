-- What crates above take of Components.
pub use Rattle.cjc_classes.specs.Components.Paired as Paired
