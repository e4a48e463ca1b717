-- What crates above take of Layout.
pub use Rattle.cjc_components.specs.Layout.Forms as Forms
pub use Rattle.cjc_components.specs.Layout.Layouts as Layouts
pub use Rattle.cjc_components.specs.Layout.Legal as Legal
pub use Rattle.cjc_components.specs.Layout.Sizes as Sizes
pub use Rattle.cjc_components.specs.Layout.declared as declared
