-- What crates above take of Tokens.
pub use Rattle.cjc_vtable.specs.Tokens.Fields as Fields
pub use Rattle.cjc_vtable.specs.Tokens.Lines as Lines
pub use Rattle.cjc_vtable.specs.Tokens.Members as Members
pub use Rattle.cjc_vtable.specs.Tokens.Methods as Methods
pub use Rattle.cjc_vtable.specs.Tokens.Rules as Rules
pub use Rattle.cjc_vtable.specs.Tokens.Slots as Slots
pub use Rattle.cjc_vtable.specs.Tokens.Tokens as Tokens
pub use Rattle.cjc_vtable.specs.Tokens.Working as Working
pub use Rattle.cjc_vtable.specs.Tokens.declared as declared
