pub mod CallsLaws
pub mod SelectionLaws
pub mod InitialisersLaws
