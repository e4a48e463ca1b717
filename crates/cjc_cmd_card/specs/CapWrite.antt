-- What crates above take of CapWrite.
pub use Rattle.cjc_pairing.specs.CapWrite.Writable as Writable
pub use Rattle.cjc_pairing.specs.CapWrite.declared as declared
