-- What crates above take of ClassFile.
pub use Rattle.cjc_frames.specs.ClassFile.Code as Code
pub use Rattle.cjc_frames.specs.ClassFile.declared as declared
