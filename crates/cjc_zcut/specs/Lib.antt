pub mod Bodies
pub mod Copies
pub mod PairCopy
pub mod Ents
