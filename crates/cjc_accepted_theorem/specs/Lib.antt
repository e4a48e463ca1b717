pub mod NamesDesc
pub mod Begins
pub mod ExportsHaveCode
pub mod CallsServed
pub mod ReadFrom
pub mod Stands
pub mod Readable
