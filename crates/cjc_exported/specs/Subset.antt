-- What crates above take of Subset.
pub use Rattle.cjc_components.specs.Subset.Types as Types
