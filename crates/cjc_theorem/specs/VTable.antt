-- What crates above take of cjc_vtable.
pub use Rattle.cjc_vtable.specs.Calls as Calls
pub use Rattle.cjc_vtable.specs.Dispatch as Dispatch
pub use Rattle.cjc_vtable.specs.Kept as Kept
pub use Rattle.cjc_vtable.specs.Laws as Laws
pub use Rattle.cjc_vtable.specs.Meant as Meant
pub use Rattle.cjc_vtable.specs.Tables as Tables
