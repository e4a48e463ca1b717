mod Agreeing
mod Converted
pub mod NamedLaws
pub mod FirstCells
pub mod CallOpcodes
pub mod InsnNames
pub mod InterfaceCalls
pub mod VirtualCalls
pub mod NamedCalls
pub mod JoinedLaws
pub mod ConvertedLaws
pub mod MetLaws
