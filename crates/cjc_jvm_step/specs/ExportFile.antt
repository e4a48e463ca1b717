-- What crates above take of ExportFile.
pub use Rattle.cjc_jvm_semantics.specs.ExportFile.Members as Members
pub use Rattle.cjc_jvm_semantics.specs.ExportFile.Supers as Supers
pub use Rattle.cjc_jvm_semantics.specs.ExportFile.declared as declared
