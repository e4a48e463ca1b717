-- What crates above take of NCode.
pub use Rattle.cjc_narrow.specs.NCode.ByLabel as ByLabel
pub use Rattle.cjc_narrow.specs.NCode.Lowering as Lowering
pub use Rattle.cjc_narrow.specs.NCode.PoolOrder as PoolOrder
pub use Rattle.cjc_narrow.specs.NCode.Written as Written
pub use Rattle.cjc_narrow.specs.NCode.declared as declared
