pub mod Count
pub mod Shelf
pub mod Sink
pub mod Memory
pub mod MemSink
pub mod Disk
pub mod Command
-- Definitions of lower crates, for those above.
pub mod Bytes
