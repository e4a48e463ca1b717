-- What crates above take of Methods.
pub use Rattle.cjc_shape.specs.Methods.Ready as Ready
