-- What crates above take of LowerTokens.
pub use Rattle.cjc_vtable.specs.LowerTokens.Fields as Fields
pub use Rattle.cjc_vtable.specs.LowerTokens.Lines as Lines
pub use Rattle.cjc_vtable.specs.LowerTokens.Members as Members
pub use Rattle.cjc_vtable.specs.LowerTokens.Methods as Methods
pub use Rattle.cjc_vtable.specs.LowerTokens.Rules as Rules
pub use Rattle.cjc_vtable.specs.LowerTokens.Slots as Slots
pub use Rattle.cjc_vtable.specs.LowerTokens.Tokens as Tokens
pub use Rattle.cjc_vtable.specs.LowerTokens.Working as Working
pub use Rattle.cjc_vtable.specs.LowerTokens.declared as declared
