pub mod Applets
