pub mod Naming
pub mod Lone
pub mod Numbers
pub mod Said
pub mod Operands
pub mod Constants
pub mod Selectable
pub mod Emitted
