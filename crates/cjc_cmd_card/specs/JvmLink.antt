-- What crates above take of JvmLink.
pub use Rattle.cjc_cmd_jvm.specs.JvmLink.Group as Group
