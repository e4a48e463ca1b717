-- What crates above take of Layout.
pub use Rattle.cjc_components.specs.Layout.Handlers as Handlers
pub use Rattle.cjc_components.specs.Layout.Refusals as Refusals
