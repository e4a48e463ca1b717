-- What crates above take of ExportFile.
pub use Rattle.cjc_order.specs.ExportFile.ExportFile as ExportFile
pub use Rattle.cjc_order.specs.ExportFile.Members as Members
pub use Rattle.cjc_order.specs.ExportFile.Writable as Writable
pub use Rattle.cjc_order.specs.ExportFile.Written as Written
pub use Rattle.cjc_order.specs.ExportFile.declared as declared
