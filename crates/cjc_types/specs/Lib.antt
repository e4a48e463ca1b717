pub mod Names
pub mod Working
pub mod Cells
pub mod States
pub mod Stacks
pub mod Types
pub mod Steps
pub mod Flow
pub mod Index
pub mod Marks
pub mod Repeats
pub mod Rules
pub mod Tables
pub mod Search
pub mod Typed
pub mod Walks
pub mod Among
pub mod TypeLaws
-- Definitions of lower crates, for those above.
pub use Rattle.cjc_fixpoint.specs as Fixpoint
pub use Rattle.cjc_classfile.specs as ClassFile
pub use Rattle.cjc_code.specs as Bytecode
pub use Rattle.cjc_world.specs as World
