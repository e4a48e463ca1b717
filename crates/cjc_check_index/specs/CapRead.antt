-- What crates above take of LowerCapRead.
pub use Rattle.cjc_check_rules.specs.LowerCapRead.Decode as Decode
pub use Rattle.cjc_check_rules.specs.LowerCapRead.Decoder as Decoder
pub use Rattle.cjc_check_rules.specs.LowerCapRead.MethodHeader as MethodHeader
pub use Rattle.cjc_check_rules.specs.LowerCapRead.declared as declared
