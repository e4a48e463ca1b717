-- What crates above take of CapRead.
pub use Rattle.cjc_pool.specs.CapRead.Opcodes as Opcodes
pub use Rattle.cjc_pool.specs.CapRead.declared as declared
