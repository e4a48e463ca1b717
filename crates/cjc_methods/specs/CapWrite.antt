-- What crates above take of CapWrite.
pub use Rattle.cjc_components.specs.CapWrite.Files as Files
pub use Rattle.cjc_components.specs.CapWrite.Size as Size
