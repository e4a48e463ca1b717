pub mod ClassesLaws
pub mod SupersLaws
