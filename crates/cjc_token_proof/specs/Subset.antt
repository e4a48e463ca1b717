-- What crates above take of Subset.
pub use Rattle.cjc_world_proof.specs.Subset.Checks as Checks
pub use Rattle.cjc_world_proof.specs.Subset.Exports as Exports
pub use Rattle.cjc_world_proof.specs.Subset.Flags as Flags
pub use Rattle.cjc_world_proof.specs.Subset.Ints as Ints
pub use Rattle.cjc_world_proof.specs.Subset.Members as Members
pub use Rattle.cjc_world_proof.specs.Subset.Names as Names
pub use Rattle.cjc_world_proof.specs.Subset.Overriding as Overriding
pub use Rattle.cjc_world_proof.specs.Subset.Places as Places
pub use Rattle.cjc_world_proof.specs.Subset.Types as Types
