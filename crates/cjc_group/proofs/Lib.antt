pub mod Loops
pub mod Lines
pub mod Decided
pub mod Alike
pub mod Chains
pub mod Agreeing
pub mod OneRank
pub mod Missed
-- Lemmas of lower crates, for those above.
pub use Rattle.cjc_bytes.proofs.BrokenRules as BytesBrokenRules
pub use Rattle.cjc_bytes.proofs.Firsts as BytesFirsts
pub use Rattle.cjc_bytes.proofs.Gets as BytesGets
pub use Rattle.cjc_bytes.proofs.Options as BytesOptions
pub use Rattle.cjc_bytes.proofs.Plain as BytesPlain
pub use Rattle.cjc_world.proofs.Cycles as WorldCycles
