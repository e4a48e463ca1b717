-- What crates above take of ClassFile.
pub use Rattle.cjc_world.specs.ClassFile.declared as declared
