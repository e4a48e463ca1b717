-- The machine by token, with the rows that the first form needs: components on words of 16 bits.
pub mod Cells
pub mod Rows
pub mod Naming
pub mod ByToken
