-- What crates above take of cjc_clinit.
pub use Rattle.cjc_clinit.specs.Fields as Fields
pub use Rattle.cjc_clinit.specs.Image as Image
pub use Rattle.cjc_clinit.specs.Initialiser as Initialiser
pub use Rattle.cjc_clinit.specs.Rules as Rules
pub use Rattle.cjc_clinit.specs.declared as declared
