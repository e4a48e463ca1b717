-- What crates above take of cjc_group.
pub use Rattle.cjc_group.specs.Grouped as Grouped
pub use Rattle.cjc_group.specs.declared as declared
