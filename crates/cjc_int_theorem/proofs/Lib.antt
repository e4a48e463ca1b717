pub mod Constants
pub mod Tokens
pub mod Numbers
pub mod ShortCode
pub mod IntCode
pub mod Methods
pub mod OfFiles
