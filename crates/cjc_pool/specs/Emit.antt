-- What crates above take of LowerEmit.
pub use Rattle.cjc_components.specs.LowerEmit.Emitted as Emitted
pub use Rattle.cjc_components.specs.LowerEmit.Said as Said
pub use Rattle.cjc_components.specs.LowerEmit.declared as declared
