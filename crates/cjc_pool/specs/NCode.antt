-- What crates above take of LowerNCode.
pub use Rattle.cjc_narrow.specs.LowerNCode.Lowering as Lowering
pub use Rattle.cjc_narrow.specs.LowerNCode.PoolOrder as PoolOrder
pub use Rattle.cjc_narrow.specs.LowerNCode.Written as Written
pub use Rattle.cjc_narrow.specs.LowerNCode.declared as declared
