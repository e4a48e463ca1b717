-- What crates above take of Components.
pub use Rattle.cjc_classes.specs.Components.Components as Components
pub use Rattle.cjc_classes.specs.Components.Descriptor as Descriptor
pub use Rattle.cjc_classes.specs.Components.ExportFile as ExportFile
pub use Rattle.cjc_classes.specs.Components.Limits as Limits
pub use Rattle.cjc_classes.specs.Components.Methods as Methods
pub use Rattle.cjc_classes.specs.Components.Names as Names
pub use Rattle.cjc_classes.specs.Components.Package as Package
