-- What components that are consistent say of one another, one sentence a rule, and a worked package.
pub mod Complete
pub mod Placed
pub mod Classes
pub mod Directory
pub mod Imports
pub mod ClassRefs
pub mod Members
pub mod Tables
pub mod PoolEntries
pub mod Instructions
pub mod Methods
pub mod Handlers
pub mod Locations
pub mod Statics
pub mod Described
pub mod Consistent
pub mod Example
