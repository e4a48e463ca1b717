-- What crates above take of Components.
pub use Rattle.cjc_shape.specs.Components.Paired as Paired
