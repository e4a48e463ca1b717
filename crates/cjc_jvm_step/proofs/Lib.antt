pub mod FrameLaws
pub mod HeapLaws
pub mod StepLaws
