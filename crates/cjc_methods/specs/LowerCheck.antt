-- What crates above take of cjc_check.
pub use Rattle.cjc_check.specs.Codes as Codes
pub use Rattle.cjc_check.specs.Jumps as Jumps
pub use Rattle.cjc_check.specs.Order as Order
pub use Rattle.cjc_check.specs.declared as declared
