-- What the code and its proofs keep for themselves; a reader of the contracts may pass over it.
pub mod Operands
pub mod Arguments
pub mod Methods
pub mod Firsts
pub mod Codes
pub mod Bodies
pub mod Ready
pub mod Made
