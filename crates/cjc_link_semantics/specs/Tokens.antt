-- What crates above take of LowerTokens.
pub use Rattle.cjc_components.specs.LowerTokens.Rules as Rules
pub use Rattle.cjc_components.specs.LowerTokens.Tokens as Tokens
