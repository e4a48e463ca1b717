pub mod Loaded
pub mod Together
-- Definitions of lower crates, for those above.
pub mod List
pub mod Bytecode
pub mod ExportFile
pub mod Script
pub mod Tokens
pub mod Clinit
pub mod CheckRules
pub mod CardSemantics
pub mod JvmSemantics
pub mod Components
