-- What crates above take of ExportFile.
pub use Rattle.cjc_shape_proof.specs.ExportFile.ExportFile as ExportFile
pub use Rattle.cjc_shape_proof.specs.ExportFile.Members as Members
pub use Rattle.cjc_shape_proof.specs.ExportFile.Package as Package
pub use Rattle.cjc_shape_proof.specs.ExportFile.Pool as Pool
pub use Rattle.cjc_shape_proof.specs.ExportFile.Root as Root
pub use Rattle.cjc_shape_proof.specs.ExportFile.declared as declared
