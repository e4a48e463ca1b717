pub mod Shifted
mod Steps
mod Spelled
mod Whole
mod Decoded
pub mod EmitLaws
-- Lemmas of lower crates, for those above.
pub use Rattle.cjc_layout.proofs.Lowered as LayoutLowered
pub use Rattle.cjc_layout.proofs.Places as LayoutPlaces
