-- What crates above take of cjc_tokens.
pub use Rattle.cjc_tokens.specs.Tokens as Tokens
