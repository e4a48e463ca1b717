pub mod LinesLaws
pub mod FilesLaws
pub mod CallsLaws
pub mod NamesLaws
-- Lemmas of lower crates, for those above.
pub use Rattle.cjc_card_link.proofs.InfoPlaces as CardLinkInfoPlaces
