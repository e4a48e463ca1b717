-- What crates above take of cjc_narrow.
pub use Rattle.cjc_narrow.specs.Keys as Keys
pub use Rattle.cjc_narrow.specs.Pairs as Pairs
pub use Rattle.cjc_narrow.specs.Rows as Rows
pub use Rattle.cjc_narrow.specs.Written as Written
