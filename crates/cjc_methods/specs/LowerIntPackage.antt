-- What crates above take of cjc_int_package.
pub use Rattle.cjc_int_package.specs.Components as Components
pub use Rattle.cjc_int_package.specs.Limits as Limits
pub use Rattle.cjc_int_package.specs.LowerIntMode as LowerIntMode
pub use Rattle.cjc_int_package.specs.Modes as Modes
pub use Rattle.cjc_int_package.specs.Written as Written
