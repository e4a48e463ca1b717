pub mod OpcodesLaws
pub mod FetchLaws
pub mod FrameLaws
pub mod HeapLaws
pub mod ImageLaws
pub mod FramesLaws
