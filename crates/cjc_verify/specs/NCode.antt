-- What crates above take of NCode.
pub use Rattle.cjc_pairing.specs.NCode.Lowering as Lowering
pub use Rattle.cjc_pairing.specs.NCode.Written as Written
pub use Rattle.cjc_pairing.specs.NCode.declared as declared
