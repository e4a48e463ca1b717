-- What crates above take of LowerBytes.
pub use Rattle.cjc_check_rules.specs.LowerBytes.AccessFlags as AccessFlags
pub use Rattle.cjc_check_rules.specs.LowerBytes.Breaks as Breaks
pub use Rattle.cjc_check_rules.specs.LowerBytes.Refused as Refused
pub use Rattle.cjc_check_rules.specs.LowerBytes.Told as Told
pub use Rattle.cjc_check_rules.specs.LowerBytes.declared as declared
