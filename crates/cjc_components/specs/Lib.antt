pub mod Package
pub mod Methods
pub mod Class
pub mod Statics
pub mod Names
pub mod Types
pub mod Descriptor
pub mod Written
pub mod Exports
pub mod Components
pub mod ExportFile
pub mod Limits
pub mod Paired
-- Definitions of lower crates, for those above.
pub use Rattle.cjc_list.specs as List
pub use Rattle.cjc_narrow.specs.Script as Script
pub use Rattle.cjc_capwrite.specs.CapRead as CapRead
pub use Rattle.cjc_capwrite.specs as CapWrite
pub use Rattle.cjc_vtable.specs.ClassOrder as ClassOrder
pub use Rattle.cjc_vtable.specs.Subset as Subset
pub use Rattle.cjc_vtable.specs.Tokens as Tokens
pub use Rattle.cjc_vtable.specs as VTable
pub use Rattle.cjc_clinit.specs as Clinit
pub use Rattle.cjc_check_rules.specs as CheckRules
pub use Rattle.cjc_narrow.specs.CardSemantics as CardSemantics
pub use Rattle.cjc_narrow.specs.NCode as NCode
pub use Rattle.cjc_narrow.specs.JvmSemantics as JvmSemantics
pub use Rattle.cjc_narrow.specs as Narrow
pub use Rattle.cjc_emit.specs.Layout as Layout
pub use Rattle.cjc_emit.specs as Emit
