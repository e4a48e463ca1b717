-- What crates above take of cjc_components.
pub use Rattle.cjc_components.specs.Components as Components
pub use Rattle.cjc_components.specs.Descriptor as Descriptor
pub use Rattle.cjc_components.specs.ExportFile as ExportFile
pub use Rattle.cjc_components.specs.Exports as Exports
pub use Rattle.cjc_components.specs.Limits as Limits
pub use Rattle.cjc_components.specs.Methods as Methods
pub use Rattle.cjc_components.specs.Names as Names
pub use Rattle.cjc_components.specs.Package as Package
