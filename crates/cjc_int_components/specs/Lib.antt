pub mod Names
pub mod Made
pub mod Worked
-- Definitions of lower crates, for those above.
pub use Rattle.cjc_int_package.specs.Modes as Modes
pub use Rattle.cjc_int_package.specs.Written as Written
pub use Rattle.cjc_int_package.specs.Components as Components
pub use Rattle.cjc_int_package.specs.Limits as Limits
