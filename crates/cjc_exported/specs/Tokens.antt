-- What crates above take of Tokens.
pub use Rattle.cjc_components.specs.Tokens.Fields as Fields
pub use Rattle.cjc_components.specs.Tokens.Lines as Lines
pub use Rattle.cjc_components.specs.Tokens.Members as Members
pub use Rattle.cjc_components.specs.Tokens.Methods as Methods
pub use Rattle.cjc_components.specs.Tokens.Rules as Rules
pub use Rattle.cjc_components.specs.Tokens.Slots as Slots
pub use Rattle.cjc_components.specs.Tokens.Tokens as Tokens
