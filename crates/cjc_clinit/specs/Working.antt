-- What only code and proofs keep for themselves.
pub mod Reading
