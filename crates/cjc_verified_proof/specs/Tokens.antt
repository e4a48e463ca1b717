-- What crates above take of cjc_tokens.
pub use Rattle.cjc_tokens.specs.Fields as Fields
pub use Rattle.cjc_tokens.specs.Lines as Lines
pub use Rattle.cjc_tokens.specs.Members as Members
pub use Rattle.cjc_tokens.specs.Methods as Methods
pub use Rattle.cjc_tokens.specs.Rules as Rules
pub use Rattle.cjc_tokens.specs.Slots as Slots
pub use Rattle.cjc_tokens.specs.Tokens as Tokens
