-- What crates above take of NCode.
pub use Rattle.cjc_token_proof.specs.NCode.ByLabel as ByLabel
pub use Rattle.cjc_token_proof.specs.NCode.Lowering as Lowering
pub use Rattle.cjc_token_proof.specs.NCode.PoolOrder as PoolOrder
pub use Rattle.cjc_token_proof.specs.NCode.declared as declared
