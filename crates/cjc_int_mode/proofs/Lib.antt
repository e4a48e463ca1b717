pub mod Words
pub mod Pairs
pub mod Named
pub mod Chosen
pub mod Places
pub mod Written
