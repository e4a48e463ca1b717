-- What crates above take of LowerBytecode.
pub use Rattle.cjc_types.specs.LowerBytecode.Jvm as Jvm
pub use Rattle.cjc_types.specs.LowerBytecode.declared as declared
