-- What crates above take of cjc_tokens.
pub use Rattle.cjc_tokens.specs.Fields as Fields
pub use Rattle.cjc_tokens.specs.Members as Members
