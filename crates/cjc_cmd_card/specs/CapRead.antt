-- What crates above take of CapRead.
pub use Rattle.cjc_card.specs.CapRead.Component as Component
pub use Rattle.cjc_card.specs.CapRead.Kinds as Kinds
pub use Rattle.cjc_card.specs.CapRead.declared as declared
