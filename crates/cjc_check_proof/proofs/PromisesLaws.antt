pub mod Ending
pub mod KeyKinds
pub mod Nothing
pub mod Made
pub mod Written
