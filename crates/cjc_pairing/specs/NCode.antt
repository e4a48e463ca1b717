-- What crates above take of LowerNCode.
pub use Rattle.cjc_classes.specs.LowerNCode.Lowering as Lowering
pub use Rattle.cjc_classes.specs.LowerNCode.Written as Written
pub use Rattle.cjc_classes.specs.LowerNCode.declared as declared
