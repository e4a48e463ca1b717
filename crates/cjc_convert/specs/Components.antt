-- What crates above take of Components.
pub use Rattle.cjc_shape_proof.specs.Components.Components as Components
pub use Rattle.cjc_shape_proof.specs.Components.Limits as Limits
pub use Rattle.cjc_shape_proof.specs.Components.Package as Package
