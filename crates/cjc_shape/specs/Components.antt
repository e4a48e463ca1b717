-- What crates above take of Components.
pub use Rattle.cjc_exported.specs.Components.Paired as Paired
