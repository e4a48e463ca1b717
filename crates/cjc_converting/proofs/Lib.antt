pub mod Shapes
pub mod Stops
mod Handlers
mod Results
