-- What crates above take of List.
pub use Rattle.cjc_pool.specs.List.Listed as Listed
