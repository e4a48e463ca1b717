pub mod MethodsLaws
pub mod NamedLaws
pub mod ReadLaws
pub mod ServedLaws
pub mod TablesLaws
pub mod TypedLaws
