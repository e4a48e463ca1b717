-- What crates above take of CapRead.
pub use Rattle.cjc_captree.specs.CapRead.Component as Component
pub use Rattle.cjc_captree.specs.CapRead.declared as declared
