-- What crates above take of Bytecode.
pub use Rattle.cjc_theorem.specs.Bytecode.Jvm as Jvm
