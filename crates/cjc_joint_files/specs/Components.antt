-- What crates above take of cjc_components.
pub use Rattle.cjc_components.specs.Package as Package
