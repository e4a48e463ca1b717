-- What crates above take of cjc_exported.
pub use Rattle.cjc_exported.specs.Exportable as Exportable
