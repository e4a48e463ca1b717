-- What crates above take of Bytecode.
pub use Rattle.cjc_types.specs.Bytecode.Jvm as Jvm
pub use Rattle.cjc_types.specs.Bytecode.declared as declared
