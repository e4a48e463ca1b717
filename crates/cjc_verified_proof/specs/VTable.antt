-- What crates above take of VTable.
pub use Rattle.cjc_components.specs.VTable.Kept as Kept
pub use Rattle.cjc_components.specs.VTable.Laws as Laws
pub use Rattle.cjc_components.specs.VTable.Meant as Meant
