-- What crates above take of Bytecode.
pub use Rattle.cjc_intervals.specs.Bytecode.PackageCodes as PackageCodes
pub use Rattle.cjc_intervals.specs.Bytecode.ReadLaws as ReadLaws
pub use Rattle.cjc_intervals.specs.Bytecode.declared as declared
