-- What crates above take of LowerTypes.
pub use Rattle.cjc_frames.specs.LowerTypes.declared as declared
