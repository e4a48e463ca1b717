-- What crates above take of cjc_pool.
pub use Rattle.cjc_pool.specs.Named as Named
pub use Rattle.cjc_pool.specs.Pool as Pool
