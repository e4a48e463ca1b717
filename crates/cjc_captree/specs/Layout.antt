-- What crates above take of Layout.
pub use Rattle.cjc_classes.specs.Layout.Handlers as Handlers
pub use Rattle.cjc_classes.specs.Layout.Refusals as Refusals
