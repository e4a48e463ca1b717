pub mod ActsLaws
pub mod EntryLaws
pub mod FramesLaws
pub mod MethodsLaws
pub mod RowsLaws
pub mod RunsLaws
pub mod StretchesLaws
pub mod WordsLaws
