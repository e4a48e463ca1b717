-- What crates above take of Bytecode.
pub use Rattle.cjc_frames.specs.Bytecode.declared as declared
