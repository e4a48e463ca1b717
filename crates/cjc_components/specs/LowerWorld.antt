-- What crates above take of World.
pub use Rattle.cjc_vtable.specs.World.Files as Files
pub use Rattle.cjc_vtable.specs.World.declared as declared
