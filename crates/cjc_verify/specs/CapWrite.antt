-- What crates above take of CapWrite.
pub use Rattle.cjc_classes.specs.CapWrite.Fits as Fits
