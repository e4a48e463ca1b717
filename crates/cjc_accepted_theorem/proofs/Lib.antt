pub mod CardTypes
mod CellsLaws
mod EntriesLaws
pub mod HeadersLaws
mod NamedLaws
pub mod PoolLaws
mod MethodsLaws
mod OwnMethodsLaws
mod RefsLaws
mod SpeltBackLaws
mod VirtualsLaws
mod FieldsLaws
mod ConcreteLaws
mod OutwardLaws
mod AbstractLaws
mod NoAbstractLaws
pub mod TypedLaws
pub mod PassedLaws
pub mod MembersLaws
pub mod SentLaws
pub mod TypesLaws
pub mod ServedLaws
pub mod FixedLaws
pub mod ThrownLaws
pub mod InterfaceLaws
mod CutLaws
mod BodiesLaws
pub mod CodedLaws
pub mod CaughtLaws
mod NamingLaws
mod ExportsLaws
pub mod AboveLaws
pub mod ReadLaws
mod BesideLaws
mod RootLaws
mod FewLaws
pub mod KnownLaws
