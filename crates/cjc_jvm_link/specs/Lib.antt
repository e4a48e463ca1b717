pub mod Linkage
pub mod Found
pub mod Wanted
pub mod Group
pub mod Joint
pub mod Methods
pub mod Fresh
pub mod Keys
pub mod Starts
pub mod Working
-- Definitions of lower crates, for those above.
pub mod JvmSemantics
