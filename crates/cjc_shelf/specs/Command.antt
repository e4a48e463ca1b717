pub mod Plan
pub mod Gather
pub mod Publish
pub mod Answer
