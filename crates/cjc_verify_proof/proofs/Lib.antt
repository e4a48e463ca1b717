pub mod WordLaws
pub mod StackLaws
pub mod PlainLaws
pub mod TableLaws
pub mod OperandLaws
pub mod TestLaws
pub mod HeapLaws
pub mod StoreLaws
