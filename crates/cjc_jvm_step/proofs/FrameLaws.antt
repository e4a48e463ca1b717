pub mod Conditions
pub mod Cuts
pub mod Piles
pub mod Shifts
