pub mod Heads
pub mod ByNumber
pub mod CardNames
-- Lemmas of lower crates, for those above.
pub use Rattle.cjc_classes.proofs.ClinitOneImage as ClinitOneImage
