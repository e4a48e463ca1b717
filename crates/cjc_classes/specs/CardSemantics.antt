-- What crates above take of LowerCardSemantics.
pub use Rattle.cjc_components.specs.LowerCardSemantics.Machine as Machine
