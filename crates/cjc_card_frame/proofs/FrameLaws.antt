pub mod Copies
pub mod Cuts
pub mod Divisions
pub mod Increases
pub mod Nibbles
pub mod Tops
