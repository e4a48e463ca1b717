-- What crates above take of cjc_shape.
pub use Rattle.cjc_shape.specs.Judged as Judged
pub use Rattle.cjc_shape.specs.Prepared as Prepared
pub use Rattle.cjc_shape.specs.Whole as Whole
pub use Rattle.cjc_shape.specs.declared as declared
