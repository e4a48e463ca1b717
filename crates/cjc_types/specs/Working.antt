-- What the code and its proofs keep for themselves; a reader of the contracts may pass over it.
pub mod NameLaws
pub mod Merging
pub mod CellLaws
pub mod StackLaws
pub mod StateLaws
pub mod TypeLaws
pub mod OperandLaws
pub mod StepLaws
pub mod FlowLaws
pub mod Marking
pub mod Onward
pub mod MarkLaws
pub mod RepeatLaws
pub mod Told
pub mod Parts
