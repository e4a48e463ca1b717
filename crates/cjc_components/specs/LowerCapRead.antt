-- What crates above take of CapRead.
pub use Rattle.cjc_capwrite.specs.CapRead.Decode as Decode
pub use Rattle.cjc_capwrite.specs.CapRead.declared as declared
