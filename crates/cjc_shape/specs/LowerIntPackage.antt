-- What crates above take of cjc_int_package.
pub use Rattle.cjc_methods.specs.LowerIntPackage.Components as Components
pub use Rattle.cjc_methods.specs.LowerIntPackage.Limits as Limits
pub use Rattle.cjc_methods.specs.LowerIntPackage.LowerIntMode as LowerIntMode
pub use Rattle.cjc_methods.specs.LowerIntPackage.Modes as Modes
pub use Rattle.cjc_methods.specs.LowerIntPackage.Written as Written
