-- What crates above take of Emit.
pub use Rattle.cjc_pool.specs.Emit.Emitted as Emitted
pub use Rattle.cjc_pool.specs.Emit.Said as Said
