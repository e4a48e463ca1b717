-- What crates above take of Bytecode.
pub use Rattle.cjc_int_mode.specs.Bytecode.Cut as Cut
pub use Rattle.cjc_int_mode.specs.Bytecode.Decoded as Decoded
pub use Rattle.cjc_int_mode.specs.Bytecode.Jvm as Jvm
pub use Rattle.cjc_int_mode.specs.Bytecode.PackageCodes as PackageCodes
pub use Rattle.cjc_int_mode.specs.Bytecode.ReadLaws as ReadLaws
pub use Rattle.cjc_int_mode.specs.Bytecode.Rules as Rules
pub use Rattle.cjc_int_mode.specs.Bytecode.Unfit as Unfit
pub use Rattle.cjc_int_mode.specs.Bytecode.declared as declared
