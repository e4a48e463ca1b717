pub mod Walks
pub mod Runs
pub mod Grammar
pub mod Wrong
pub mod Settled
pub mod Told
pub mod Effects
pub mod Answered
