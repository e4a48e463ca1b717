-- What crates above take of cjc_clinit.
pub use Rattle.cjc_clinit.specs.Fields as Fields
pub use Rattle.cjc_clinit.specs.Image as Image
