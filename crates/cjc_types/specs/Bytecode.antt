-- What crates above take of cjc_code.
pub use Rattle.cjc_code.specs.Cut as Cut
pub use Rattle.cjc_code.specs.Decoded as Decoded
pub use Rattle.cjc_code.specs.Jvm as Jvm
pub use Rattle.cjc_code.specs.PackageCodes as PackageCodes
pub use Rattle.cjc_code.specs.ReadLaws as ReadLaws
pub use Rattle.cjc_code.specs.Rules as Rules
pub use Rattle.cjc_code.specs.Unfit as Unfit
pub use Rattle.cjc_code.specs.declared as declared
