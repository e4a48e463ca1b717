-- Lemmas of lower crates, for those above.
pub use Rattle.cjc_list.proofs as List
pub use Rattle.cjc_capwrite.proofs as CapWrite
pub use Rattle.cjc_vtable.proofs.ClassOrder as ClassOrder
pub use Rattle.cjc_vtable.proofs.Tokens as Tokens
pub use Rattle.cjc_vtable.proofs as VTable
pub use Rattle.cjc_narrow.proofs as Narrow
pub use Rattle.cjc_emit.proofs.LowerLayout as LowerLayout
pub use Rattle.cjc_emit.proofs as Emit
