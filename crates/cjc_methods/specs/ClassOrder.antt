-- What crates above take of ClassOrder.
pub use Rattle.cjc_pool.specs.ClassOrder.Classes as Classes
