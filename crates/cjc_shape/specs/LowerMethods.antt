-- What crates above take of cjc_methods.
pub use Rattle.cjc_methods.specs.Component as Component
pub use Rattle.cjc_methods.specs.JvmSemantics as JvmSemantics
pub use Rattle.cjc_methods.specs.Ready as Ready
