-- What crates above take of Emit.
pub use Rattle.cjc_components.specs.Emit.Emitted as Emitted
pub use Rattle.cjc_components.specs.Emit.Said as Said
