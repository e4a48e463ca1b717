-- What crates above take of Subset.
pub use Rattle.cjc_pool.specs.Subset.Checks as Checks
pub use Rattle.cjc_pool.specs.Subset.Ints as Ints
pub use Rattle.cjc_pool.specs.Subset.Limits as Limits
pub use Rattle.cjc_pool.specs.Subset.Members as Members
pub use Rattle.cjc_pool.specs.Subset.Names as Names
pub use Rattle.cjc_pool.specs.Subset.Places as Places
