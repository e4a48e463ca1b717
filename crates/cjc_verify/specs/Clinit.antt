-- What crates above take of Clinit.
pub use Rattle.cjc_classes.specs.Clinit.Fields as Fields
pub use Rattle.cjc_classes.specs.Clinit.Image as Image
pub use Rattle.cjc_classes.specs.Clinit.Initialiser as Initialiser
pub use Rattle.cjc_classes.specs.Clinit.declared as declared
