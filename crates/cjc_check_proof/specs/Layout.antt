-- What crates above take of Layout.
pub use Rattle.cjc_pool.specs.Layout.Forms as Forms
pub use Rattle.cjc_pool.specs.Layout.Handlers as Handlers
pub use Rattle.cjc_pool.specs.Layout.Layouts as Layouts
pub use Rattle.cjc_pool.specs.Layout.Legal as Legal
pub use Rattle.cjc_pool.specs.Layout.Sizes as Sizes
pub use Rattle.cjc_pool.specs.Layout.declared as declared
