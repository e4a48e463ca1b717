-- What crates above take of cjc_types.
pub use Rattle.cjc_types.specs.Cells as Cells
pub use Rattle.cjc_types.specs.Fixpoint as Fixpoint
pub use Rattle.cjc_types.specs.Names as Names
pub use Rattle.cjc_types.specs.Rules as Rules
pub use Rattle.cjc_types.specs.States as States
pub use Rattle.cjc_types.specs.Steps as Steps
pub use Rattle.cjc_types.specs.Types as Types
pub use Rattle.cjc_types.specs.Working as Working
pub use Rattle.cjc_types.specs.declared as declared
