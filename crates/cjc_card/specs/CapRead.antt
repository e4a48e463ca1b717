-- What crates above take of CapRead.
pub use Rattle.cjc_card_semantics.specs.CapRead.Component as Component
pub use Rattle.cjc_card_semantics.specs.CapRead.Directory as Directory
pub use Rattle.cjc_card_semantics.specs.CapRead.Kinds as Kinds
pub use Rattle.cjc_card_semantics.specs.CapRead.declared as declared
