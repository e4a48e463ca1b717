pub mod Linked
pub mod Arithmetic
pub mod Effects
pub mod Machine
pub mod OnePackage
pub mod ByName
pub mod Worked
pub mod Wallet
pub mod Group
-- Definitions of lower crates, for those above.
pub mod LowerBytes
pub mod LowerRange
pub mod LowerClassFile
pub mod LowerBytecode
pub mod LowerScript
pub mod CapRead
pub mod LowerWorld
pub mod LowerCardSemantics
