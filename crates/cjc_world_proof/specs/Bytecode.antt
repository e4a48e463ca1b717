-- What crates above take of Bytecode.
pub use Rattle.cjc_clinit.specs.Bytecode.declared as declared
