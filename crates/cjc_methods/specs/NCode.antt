-- What crates above take of NCode.
pub use Rattle.cjc_components.specs.NCode.Lowering as Lowering
pub use Rattle.cjc_components.specs.NCode.PoolOrder as PoolOrder
pub use Rattle.cjc_components.specs.NCode.Written as Written
pub use Rattle.cjc_components.specs.NCode.declared as declared
