-- What crates above take of cjc_code.
pub use Rattle.cjc_code.specs.Decoded as Decoded
pub use Rattle.cjc_code.specs.Jvm as Jvm
pub use Rattle.cjc_code.specs.PackageCodes as PackageCodes
pub use Rattle.cjc_code.specs.declared as declared
