-- What crates above take of cjc_components.
pub use Rattle.cjc_components.specs.ExportFile as ExportFile
pub use Rattle.cjc_components.specs.Exports as Exports
pub use Rattle.cjc_components.specs.Names as Names
pub use Rattle.cjc_components.specs.Package as Package
pub use Rattle.cjc_components.specs.Paired as Paired
pub use Rattle.cjc_components.specs.Statics as Statics
