-- What crates above take of Bytecode.
pub use Rattle.cjc_types.specs.Bytecode.Cut as Cut
pub use Rattle.cjc_types.specs.Bytecode.Decoded as Decoded
pub use Rattle.cjc_types.specs.Bytecode.Jvm as Jvm
pub use Rattle.cjc_types.specs.Bytecode.PackageCodes as PackageCodes
pub use Rattle.cjc_types.specs.Bytecode.ReadLaws as ReadLaws
pub use Rattle.cjc_types.specs.Bytecode.Rules as Rules
pub use Rattle.cjc_types.specs.Bytecode.Unfit as Unfit
pub use Rattle.cjc_types.specs.Bytecode.declared as declared
