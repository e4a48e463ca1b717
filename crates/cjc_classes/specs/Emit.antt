-- What crates above take of LowerEmit.
pub use Rattle.cjc_components.specs.LowerEmit.Emitted as Emitted
