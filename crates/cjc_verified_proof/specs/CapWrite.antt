-- What crates above take of CapWrite.
pub use Rattle.cjc_components.specs.CapWrite.Fits as Fits
