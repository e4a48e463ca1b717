-- What crates above take of NCode.
pub use Rattle.cjc_classes.specs.NCode.Lowering as Lowering
pub use Rattle.cjc_classes.specs.NCode.PoolOrder as PoolOrder
pub use Rattle.cjc_classes.specs.NCode.declared as declared
