pub mod ByOffset
pub mod ByNumber
