-- What crates above take of cjc_components.
pub use Rattle.cjc_components.specs.Components as Components
pub use Rattle.cjc_components.specs.Limits as Limits
pub use Rattle.cjc_components.specs.Package as Package
