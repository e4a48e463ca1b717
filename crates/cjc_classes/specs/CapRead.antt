-- What crates above take of CapRead.
pub use Rattle.cjc_components.specs.CapRead.Component as Component
pub use Rattle.cjc_components.specs.CapRead.declared as declared
