-- What crates above take of CapWrite.
pub use Rattle.cjc_components.specs.CapWrite.Writable as Writable
pub use Rattle.cjc_components.specs.CapWrite.declared as declared
