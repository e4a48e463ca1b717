-- What crates above take of Tokens.
pub use Rattle.cjc_classes.specs.Tokens.Fields as Fields
