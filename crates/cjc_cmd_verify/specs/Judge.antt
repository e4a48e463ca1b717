-- What crates above take of Judge.
pub use Rattle.cjc_verify_theorem.specs.Judge.Rules as Rules
pub use Rattle.cjc_verify_theorem.specs.Judge.Spelt as Spelt
