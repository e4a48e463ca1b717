pub mod Items
pub mod Decoding
pub mod Files
pub mod Families
pub mod Firsts
pub mod Folds
pub mod Thirds
pub mod Packages
pub mod Typed
pub mod Tables
pub mod Moded
pub mod Whole
pub mod Each
pub mod Early
pub mod Assigned
pub mod Places
pub mod ToldWorld
pub mod ToldRules
pub mod OneRefusal
pub mod RangesLaws
pub mod Unbroken
pub mod JointLaws
-- Lemmas of lower crates, for those above.
pub use Rattle.cjc_clinit.proofs.OneImage as ClinitOneImage
pub use Rattle.cjc_flow.proofs.TestsLaws.First as FlowFirst
pub use Rattle.cjc_int_narrow.proofs.AreNumbers as IntNarrowAreNumbers
