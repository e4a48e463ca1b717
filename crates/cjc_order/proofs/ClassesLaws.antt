pub mod Standing
pub mod Edges
pub mod Queues
pub mod Declared
