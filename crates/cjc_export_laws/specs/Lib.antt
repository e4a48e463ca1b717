pub mod Exportable
