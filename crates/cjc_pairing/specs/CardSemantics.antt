-- What crates above take of CardSemantics.
pub use Rattle.cjc_classes.specs.CardSemantics.Machine as Machine
