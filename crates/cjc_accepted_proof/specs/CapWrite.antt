-- What crates above take of CapWrite.
pub use Rattle.cjc_verify.specs.CapWrite.Fits as Fits
