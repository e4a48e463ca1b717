-- What crates above take of Components.
pub use Rattle.cjc_verify_theorem.specs.Components.ExportFile as ExportFile
pub use Rattle.cjc_verify_theorem.specs.Components.Package as Package
