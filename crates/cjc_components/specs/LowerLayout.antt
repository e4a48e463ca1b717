-- What crates above take of LowerLayout.
pub use Rattle.cjc_emit.specs.LowerLayout.Forms as Forms
pub use Rattle.cjc_emit.specs.LowerLayout.Handlers as Handlers
pub use Rattle.cjc_emit.specs.LowerLayout.Layouts as Layouts
pub use Rattle.cjc_emit.specs.LowerLayout.Legal as Legal
pub use Rattle.cjc_emit.specs.LowerLayout.OnCard as OnCard
pub use Rattle.cjc_emit.specs.LowerLayout.Refusals as Refusals
pub use Rattle.cjc_emit.specs.LowerLayout.Sizes as Sizes
pub use Rattle.cjc_emit.specs.LowerLayout.declared as declared
