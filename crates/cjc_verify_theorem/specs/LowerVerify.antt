-- What crates above take of LowerVerify.
pub use Rattle.cjc_verified_proof.specs.LowerVerify.Bodies as Bodies
pub use Rattle.cjc_verified_proof.specs.LowerVerify.Described as Described
pub use Rattle.cjc_verified_proof.specs.LowerVerify.Headers as Headers
pub use Rattle.cjc_verified_proof.specs.LowerVerify.Infos as Infos
pub use Rattle.cjc_verified_proof.specs.LowerVerify.Pairs as Pairs
pub use Rattle.cjc_verified_proof.specs.LowerVerify.Verified as Verified
