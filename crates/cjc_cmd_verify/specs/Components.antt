-- What crates above take of Components.
pub use Rattle.cjc_cmd_card.specs.Components.ExportFile as ExportFile
pub use Rattle.cjc_cmd_card.specs.Components.Package as Package
