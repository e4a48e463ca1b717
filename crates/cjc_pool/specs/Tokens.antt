-- What crates above take of LowerTokens.
pub use Rattle.cjc_components.specs.LowerTokens.Fields as Fields
pub use Rattle.cjc_components.specs.LowerTokens.Lines as Lines
pub use Rattle.cjc_components.specs.LowerTokens.Members as Members
pub use Rattle.cjc_components.specs.LowerTokens.Methods as Methods
pub use Rattle.cjc_components.specs.LowerTokens.Rules as Rules
pub use Rattle.cjc_components.specs.LowerTokens.Slots as Slots
pub use Rattle.cjc_components.specs.LowerTokens.Tokens as Tokens
