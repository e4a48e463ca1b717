-- What crates above take of Jvm.
pub use Rattle.cjc_card.specs.Jvm.States as States
