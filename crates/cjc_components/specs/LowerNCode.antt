-- What crates above take of NCode.
pub use Rattle.cjc_emit.specs.NCode.ByLabel as ByLabel
pub use Rattle.cjc_emit.specs.NCode.Lowering as Lowering
pub use Rattle.cjc_emit.specs.NCode.PoolOrder as PoolOrder
pub use Rattle.cjc_emit.specs.NCode.declared as declared
