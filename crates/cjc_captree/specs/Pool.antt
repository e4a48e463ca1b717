-- What crates above take of Pool.
pub use Rattle.cjc_methods.specs.Pool.Pool as Pool
