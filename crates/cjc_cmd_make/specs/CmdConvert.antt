-- What crates above take of cjc_cmd_convert.
pub use Rattle.cjc_cmd_convert.specs.Conversion as Conversion
pub use Rattle.cjc_cmd_convert.specs.Publication as Publication
