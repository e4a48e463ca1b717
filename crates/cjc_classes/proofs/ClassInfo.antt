pub mod Places
pub mod Noting
pub mod Spotted
pub mod Trees
pub mod Shares
