-- What crates above take of Check.
pub use Rattle.cjc_methods.specs.Check.Jumps as Jumps
