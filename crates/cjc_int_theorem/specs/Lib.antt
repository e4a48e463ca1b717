pub mod ByModes
pub mod Tabled
pub mod Alike
pub mod Halves
-- Definitions of lower crates, for those above.
pub use Rattle.cjc_int_components.specs.Components as Components
pub use Rattle.cjc_int_components.specs.Limits as Limits
