pub mod Listing
pub mod Completing
pub mod Standing
pub mod OwnTokens
pub mod Promising
