pub mod Alone
mod Roots
mod Sent
mod Test
pub mod Implementing
