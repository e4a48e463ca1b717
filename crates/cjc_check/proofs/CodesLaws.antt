pub mod Walks
pub mod Kept
pub mod MethodLists
pub mod Rises
