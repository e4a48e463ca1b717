-- What crates above take of Judge.
pub use Rattle.cjc_convert.specs.Judge.Rules as Rules
