-- What crates above take of Tokens.
pub use Rattle.cjc_pool.specs.Tokens.Fields as Fields
pub use Rattle.cjc_pool.specs.Tokens.Lines as Lines
pub use Rattle.cjc_pool.specs.Tokens.Members as Members
pub use Rattle.cjc_pool.specs.Tokens.Methods as Methods
pub use Rattle.cjc_pool.specs.Tokens.Rules as Rules
pub use Rattle.cjc_pool.specs.Tokens.Slots as Slots
pub use Rattle.cjc_pool.specs.Tokens.Tokens as Tokens
