pub mod ActsLaws
pub mod TurnsLaws
pub mod RunsLaws
pub mod GroupLaws
