-- What crates above take of cjc_capread.
pub use Rattle.cjc_capread.specs.Component as Component
pub use Rattle.cjc_capread.specs.declared as declared
