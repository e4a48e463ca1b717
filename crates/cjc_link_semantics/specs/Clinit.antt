-- What crates above take of LowerClinit.
pub use Rattle.cjc_components.specs.LowerClinit.Fields as Fields
pub use Rattle.cjc_components.specs.LowerClinit.Image as Image
