-- What crates above take of Bytecode.
pub use Rattle.cjc_subset.specs.Bytecode.Cut as Cut
pub use Rattle.cjc_subset.specs.Bytecode.Decoded as Decoded
pub use Rattle.cjc_subset.specs.Bytecode.Named as Named
pub use Rattle.cjc_subset.specs.Bytecode.PackageCodes as PackageCodes
pub use Rattle.cjc_subset.specs.Bytecode.Unfit as Unfit
pub use Rattle.cjc_subset.specs.Bytecode.declared as declared
