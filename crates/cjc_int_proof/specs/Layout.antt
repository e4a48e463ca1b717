-- What crates above take of cjc_layout.
pub use Rattle.cjc_layout.specs.Handlers as Handlers
pub use Rattle.cjc_layout.specs.Layouts as Layouts
