pub mod NarrowLaws
pub mod ComponentsLaws
