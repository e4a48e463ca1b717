-- What crates above take of CapWrite.
pub use Rattle.cjc_theorem.specs.CapWrite.Writable as Writable
pub use Rattle.cjc_theorem.specs.CapWrite.declared as declared
