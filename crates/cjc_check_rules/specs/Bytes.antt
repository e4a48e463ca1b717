-- What crates above take of LowerBytes.
pub use Rattle.cjc_export.specs.LowerBytes.AccessFlags as AccessFlags
pub use Rattle.cjc_export.specs.LowerBytes.Breaks as Breaks
pub use Rattle.cjc_export.specs.LowerBytes.Order as Order
pub use Rattle.cjc_export.specs.LowerBytes.Told as Told
