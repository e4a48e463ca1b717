-- What crates above take of LowerPool.
pub use Rattle.cjc_methods.specs.LowerPool.Pool as Pool
