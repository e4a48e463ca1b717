-- What crates above take of Verify.
pub use Rattle.cjc_verified_proof.specs.Verify.Bodies as Bodies
pub use Rattle.cjc_verified_proof.specs.Verify.Described as Described
pub use Rattle.cjc_verified_proof.specs.Verify.Headers as Headers
pub use Rattle.cjc_verified_proof.specs.Verify.Infos as Infos
pub use Rattle.cjc_verified_proof.specs.Verify.Pairs as Pairs
pub use Rattle.cjc_verified_proof.specs.Verify.Verified as Verified
