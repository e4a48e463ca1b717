pub mod PackageLaws
pub mod ReportLaws
