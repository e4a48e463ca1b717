-- What crates above take of LowerCapRead.
pub use Rattle.cjc_ncode.specs.LowerCapRead.Card as Card
