-- What crates above take of ClassOrder.
pub use Rattle.cjc_world_proof.specs.ClassOrder.Classes as Classes
pub use Rattle.cjc_world_proof.specs.ClassOrder.Supers as Supers
