-- What crates above take of Bytes.
pub use Rattle.cjc_tokens.specs.Bytes.Format as Format
pub use Rattle.cjc_tokens.specs.Bytes.Refused as Refused
pub use Rattle.cjc_tokens.specs.Bytes.Text as Text
pub use Rattle.cjc_tokens.specs.Bytes.declared as declared
