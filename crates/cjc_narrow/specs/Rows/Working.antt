pub mod Hits
