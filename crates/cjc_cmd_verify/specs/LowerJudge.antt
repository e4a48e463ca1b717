-- What crates above take of Judge.
pub use Rattle.cjc_cmd_card.specs.Judge.Rules as Rules
pub use Rattle.cjc_cmd_card.specs.Judge.Spelt as Spelt
