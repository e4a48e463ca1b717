-- What crates above take of cjc_int_package.
pub use Rattle.cjc_shape.specs.LowerIntPackage.Components as Components
pub use Rattle.cjc_shape.specs.LowerIntPackage.Limits as Limits
pub use Rattle.cjc_shape.specs.LowerIntPackage.LowerIntMode as LowerIntMode
pub use Rattle.cjc_shape.specs.LowerIntPackage.Modes as Modes
pub use Rattle.cjc_shape.specs.LowerIntPackage.Written as Written
