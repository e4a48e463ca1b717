pub mod SelectionLaws
pub mod TablesLaws
pub mod RunsLaws
pub mod SelectedLaws
pub mod LawsLaws
pub mod NamesLaws
-- Lemmas of lower crates, for those above.
pub use Rattle.cjc_range.proofs.Spans as RangeSpans
pub use Rattle.cjc_code.proofs.ReadLaws.Members as BytecodeMembers
pub use Rattle.cjc_vtable.proofs.Asked as VTableAsked
pub use Rattle.cjc_vtable.proofs.Filed as VTableFiled
pub use Rattle.cjc_vtable.proofs.Numbers as VTableNumbers
pub use Rattle.cjc_vtable.proofs.Read as VTableRead
pub use Rattle.cjc_vtable.proofs.Stood as VTableStood
pub use Rattle.cjc_types.proofs.Least as TypesLeast
pub use Rattle.cjc_types.proofs.TypeLaws.Standing as TypesStanding
pub use Rattle.cjc_types.proofs.Typed as TypesTyped
pub use Rattle.cjc_card_semantics.proofs.BytecodeLaws.Together as CardSemanticsTogether
pub use Rattle.cjc_ncode.proofs.LoweringLaws.ByCode as NCodeByCode
