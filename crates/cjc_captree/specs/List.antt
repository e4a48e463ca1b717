-- What crates above take of List.
pub use Rattle.cjc_classes.specs.List.Listed as Listed
