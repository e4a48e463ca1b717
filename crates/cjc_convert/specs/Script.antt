-- What crates above take of Script.
pub use Rattle.cjc_captree.specs.Script.declared as declared
