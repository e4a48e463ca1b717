pub mod Longer
pub mod Forms
pub mod Cuts
mod Codes
pub mod Lists
mod Pushes
mod Acts
mod Steps
mod Known
pub mod BehavesAlike
mod Whole
pub mod Inheriting
pub mod Consistency
pub mod Small
pub mod Limits
pub mod ExportFiles
