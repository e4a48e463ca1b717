pub mod Listing
pub mod Standing
pub mod Promising
pub mod OneStatus
pub mod Tested
pub mod Ran
pub mod CardRan
pub mod Summed
