-- What crates above take of LowerCheck.
pub use Rattle.cjc_methods.specs.LowerCheck.Jumps as Jumps
