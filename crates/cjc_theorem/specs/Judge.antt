-- What crates above take of Judge.
pub use Rattle.cjc_shape_proof.specs.Judge.Judged as Judged
pub use Rattle.cjc_shape_proof.specs.Judge.Rules as Rules
pub use Rattle.cjc_shape_proof.specs.Judge.Spelt as Spelt
pub use Rattle.cjc_shape_proof.specs.Judge.Trees as Trees
pub use Rattle.cjc_shape_proof.specs.Judge.declared as declared
