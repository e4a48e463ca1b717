-- What crates above take of Script.
pub use Rattle.cjc_pairing.specs.Script.declared as declared
