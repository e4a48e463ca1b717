-- What crates above take of LowerNCode.
pub use Rattle.cjc_components.specs.LowerNCode.Lowering as Lowering
pub use Rattle.cjc_components.specs.LowerNCode.PoolOrder as PoolOrder
pub use Rattle.cjc_components.specs.LowerNCode.declared as declared
