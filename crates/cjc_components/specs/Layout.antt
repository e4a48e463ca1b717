-- What crates above take of Layout.
pub use Rattle.cjc_emit.specs.Layout.Forms as Forms
pub use Rattle.cjc_emit.specs.Layout.Handlers as Handlers
pub use Rattle.cjc_emit.specs.Layout.Layouts as Layouts
pub use Rattle.cjc_emit.specs.Layout.Legal as Legal
pub use Rattle.cjc_emit.specs.Layout.OnCard as OnCard
pub use Rattle.cjc_emit.specs.Layout.Refusals as Refusals
pub use Rattle.cjc_emit.specs.Layout.Sizes as Sizes
pub use Rattle.cjc_emit.specs.Layout.declared as declared
