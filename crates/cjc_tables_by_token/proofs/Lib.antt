pub mod Filed
pub mod Clean
pub mod Order
pub mod Infos
pub mod Named
