-- What crates above take of cjc_vtable.
pub use Rattle.cjc_vtable.specs.Tables as Tables
pub use Rattle.cjc_vtable.specs.declared as declared
