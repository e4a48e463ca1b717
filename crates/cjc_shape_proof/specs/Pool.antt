-- What crates above take of Pool.
pub use Rattle.cjc_shape.specs.Pool.Pool as Pool
