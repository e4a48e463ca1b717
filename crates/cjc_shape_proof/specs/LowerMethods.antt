-- What crates above take of LowerMethods.
pub use Rattle.cjc_shape.specs.LowerMethods.JvmSemantics as JvmSemantics
pub use Rattle.cjc_shape.specs.LowerMethods.Ready as Ready
