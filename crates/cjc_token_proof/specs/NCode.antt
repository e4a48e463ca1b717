-- What crates above take of cjc_ncode.
pub use Rattle.cjc_ncode.specs.ByLabel as ByLabel
pub use Rattle.cjc_ncode.specs.Lowering as Lowering
pub use Rattle.cjc_ncode.specs.PoolOrder as PoolOrder
pub use Rattle.cjc_ncode.specs.declared as declared
