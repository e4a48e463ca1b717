pub mod Own
pub mod ClassNames
pub mod Handlers
pub mod Room
pub mod Instructions
pub mod WordTypes
pub mod OwnTypes
pub mod Whole
