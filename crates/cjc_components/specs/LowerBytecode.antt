-- What crates above take of Bytecode.
pub use Rattle.cjc_vtable.specs.Bytecode.PackageCodes as PackageCodes
