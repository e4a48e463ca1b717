-- What crates above take of CapRead.
pub use Rattle.cjc_classes.specs.CapRead.Component as Component
pub use Rattle.cjc_classes.specs.CapRead.declared as declared
