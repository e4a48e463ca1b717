-- What crates above take of CapRead.
pub use Rattle.cjc_jvm_semantics.specs.CapRead.Component as Component
pub use Rattle.cjc_jvm_semantics.specs.CapRead.declared as declared
