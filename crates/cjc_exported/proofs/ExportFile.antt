pub mod Piles
pub mod ByNumber
pub mod Methods
pub mod Plains
pub mod Shareable
pub mod Exporting
pub mod Few
pub mod Tokened
