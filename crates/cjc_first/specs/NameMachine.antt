-- The machine by name, with the rows that the first form needs: class files on numbers of 32 bits.
pub mod Linked
pub mod ByName
