pub mod Stacks
pub mod Steps
pub mod Flow
pub mod RangeLaws
-- Lemmas of lower crates, for those above.
pub use Rattle.cjc_types.proofs.BytecodeMembers as BytecodeMembers
