-- What crates above take of CapWrite.
pub use Rattle.cjc_captree.specs.CapWrite.Writable as Writable
pub use Rattle.cjc_captree.specs.CapWrite.declared as declared
