-- What crates above take of cjc_list.
pub use Rattle.cjc_list.specs.Listed as Listed
pub use Rattle.cjc_list.specs.Spelling as Spelling
