-- What crates above take of cjc_layout.
pub use Rattle.cjc_layout.specs.Forms as Forms
pub use Rattle.cjc_layout.specs.Handlers as Handlers
pub use Rattle.cjc_layout.specs.Layouts as Layouts
pub use Rattle.cjc_layout.specs.Legal as Legal
pub use Rattle.cjc_layout.specs.OnCard as OnCard
pub use Rattle.cjc_layout.specs.Refusals as Refusals
pub use Rattle.cjc_layout.specs.Sizes as Sizes
pub use Rattle.cjc_layout.specs.declared as declared
