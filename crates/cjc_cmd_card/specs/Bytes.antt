-- What crates above take of Bytes.
pub use Rattle.cjc_cmd_check.specs.Bytes.AccessFlags as AccessFlags
pub use Rattle.cjc_cmd_check.specs.Bytes.Breaks as Breaks
pub use Rattle.cjc_cmd_check.specs.Bytes.Format as Format
pub use Rattle.cjc_cmd_check.specs.Bytes.Found as Found
pub use Rattle.cjc_cmd_check.specs.Bytes.Reading as Reading
pub use Rattle.cjc_cmd_check.specs.Bytes.Spots as Spots
pub use Rattle.cjc_cmd_check.specs.Bytes.declared as declared
