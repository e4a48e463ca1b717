pub mod Firsts
pub mod Answering
pub mod Wrong
pub mod Least
