-- What crates above take of cjc_ncode.
pub use Rattle.cjc_ncode.specs.Lowering as Lowering
pub use Rattle.cjc_ncode.specs.Written as Written
pub use Rattle.cjc_ncode.specs.declared as declared
