-- What crates above take of cjc_classes.
pub use Rattle.cjc_classes.specs.Descriptor as Descriptor
