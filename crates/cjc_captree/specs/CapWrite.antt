-- What crates above take of CapWrite.
pub use Rattle.cjc_classes.specs.CapWrite.Files as Files
pub use Rattle.cjc_classes.specs.CapWrite.Method as Method
pub use Rattle.cjc_classes.specs.CapWrite.Writable as Writable
pub use Rattle.cjc_classes.specs.CapWrite.declared as declared
