-- What crates above take of World.
pub use Rattle.cjc_shape_proof.specs.World.Files as Files
