-- What crates above take of Bytecode.
pub use Rattle.cjc_flow.specs.Bytecode.Jvm as Jvm
pub use Rattle.cjc_flow.specs.Bytecode.declared as declared
