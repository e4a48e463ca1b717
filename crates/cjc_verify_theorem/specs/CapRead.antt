-- What crates above take of LowerCapRead.
pub use Rattle.cjc_verified_proof.specs.LowerCapRead.Component as Component
pub use Rattle.cjc_verified_proof.specs.LowerCapRead.Kinds as Kinds
pub use Rattle.cjc_verified_proof.specs.LowerCapRead.declared as declared
