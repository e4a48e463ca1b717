pub mod Begun
pub mod Calls
pub mod Named
pub mod Rules
pub mod Package
pub mod Codes
pub mod Runs
pub mod MembersLaws
