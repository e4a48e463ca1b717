-- What crates above take of Clinit.
pub use Rattle.cjc_cmd_card.specs.Clinit.Image as Image
