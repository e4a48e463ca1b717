-- What crates above take of Judge.
pub use Rattle.cjc_cmd_verify.specs.Judge.Rules as Rules
pub use Rattle.cjc_cmd_verify.specs.Judge.Spelt as Spelt
