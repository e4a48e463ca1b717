-- What crates above take of LowerBytecode.
pub use Rattle.cjc_subset.specs.LowerBytecode.Cut as Cut
pub use Rattle.cjc_subset.specs.LowerBytecode.Decoded as Decoded
pub use Rattle.cjc_subset.specs.LowerBytecode.Jvm as Jvm
pub use Rattle.cjc_subset.specs.LowerBytecode.Named as Named
pub use Rattle.cjc_subset.specs.LowerBytecode.PackageCodes as PackageCodes
pub use Rattle.cjc_subset.specs.LowerBytecode.ReadLaws as ReadLaws
pub use Rattle.cjc_subset.specs.LowerBytecode.Unfit as Unfit
pub use Rattle.cjc_subset.specs.LowerBytecode.declared as declared
