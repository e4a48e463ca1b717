pub mod ActsLaws
pub mod TurnsLaws
pub mod RunsLaws
