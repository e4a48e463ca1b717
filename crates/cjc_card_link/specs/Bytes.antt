-- What crates above take of Bytes.
pub use Rattle.cjc_check_index.specs.Bytes.AccessFlags as AccessFlags
pub use Rattle.cjc_check_index.specs.Bytes.Breaks as Breaks
pub use Rattle.cjc_check_index.specs.Bytes.Refused as Refused
pub use Rattle.cjc_check_index.specs.Bytes.Told as Told
pub use Rattle.cjc_check_index.specs.Bytes.declared as declared
