pub mod Alone
pub mod Listed
pub mod Roots
pub mod Sent
pub mod Test
