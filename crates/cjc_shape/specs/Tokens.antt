-- What crates above take of Tokens.
pub use Rattle.cjc_methods.specs.Tokens.Rules as Rules
pub use Rattle.cjc_methods.specs.Tokens.Tokens as Tokens
