-- What crates above take of cjc_clinit.
pub use Rattle.cjc_clinit.specs.Image as Image
pub use Rattle.cjc_clinit.specs.Rules as Rules
