pub mod NeverStuck
pub mod Passed
-- When export files agree, for who promises what rests on it.
pub use Rattle.cjc_theorem.specs.FairExports as FairExports
-- Definitions of lower crates, for those above.
pub mod Verify
pub mod Judge
