pub mod FirstForm
pub mod Selected
pub mod Converted
pub mod Example
pub mod BehaveAlike
pub mod Tests
pub mod Order
pub mod Conversion
