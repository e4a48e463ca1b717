-- What crates above take of CapWrite.
pub use Rattle.cjc_components.specs.CapWrite.Package as Package
pub use Rattle.cjc_components.specs.CapWrite.Size as Size
