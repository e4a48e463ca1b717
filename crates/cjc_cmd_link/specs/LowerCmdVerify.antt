-- What crates above take of cjc_cmd_verify.
pub use Rattle.cjc_cmd_verify.specs.Verify as Verify
