-- What crates above take of List.
pub use Rattle.cjc_group.specs.List.Listed as Listed
pub use Rattle.cjc_group.specs.List.Spelling as Spelling
