-- What crates above take of LowerLayout.
pub use Rattle.cjc_components.specs.LowerLayout.Forms as Forms
pub use Rattle.cjc_components.specs.LowerLayout.Handlers as Handlers
pub use Rattle.cjc_components.specs.LowerLayout.Layouts as Layouts
pub use Rattle.cjc_components.specs.LowerLayout.Legal as Legal
pub use Rattle.cjc_components.specs.LowerLayout.OnCard as OnCard
pub use Rattle.cjc_components.specs.LowerLayout.Refusals as Refusals
pub use Rattle.cjc_components.specs.LowerLayout.Sizes as Sizes
pub use Rattle.cjc_components.specs.LowerLayout.declared as declared
