-- What crates above take of LowerLayout.
pub use Rattle.cjc_components.specs.LowerLayout.Legal as Legal
pub use Rattle.cjc_components.specs.LowerLayout.Sizes as Sizes
