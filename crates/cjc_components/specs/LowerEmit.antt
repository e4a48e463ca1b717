-- What crates above take of cjc_emit.
pub use Rattle.cjc_emit.specs.Emitted as Emitted
pub use Rattle.cjc_emit.specs.Said as Said
pub use Rattle.cjc_emit.specs.declared as declared
