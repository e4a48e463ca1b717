-- What crates above take of CapWrite.
pub use Rattle.cjc_classes.specs.CapWrite.Writable as Writable
pub use Rattle.cjc_classes.specs.CapWrite.declared as declared
