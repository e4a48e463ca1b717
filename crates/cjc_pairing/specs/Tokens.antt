-- What crates above take of Tokens.
pub use Rattle.cjc_classes.specs.Tokens.Rules as Rules
pub use Rattle.cjc_classes.specs.Tokens.Tokens as Tokens
