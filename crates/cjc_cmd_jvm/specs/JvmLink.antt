-- What crates above take of cjc_jvm_link.
pub use Rattle.cjc_jvm_link.specs.Group as Group
