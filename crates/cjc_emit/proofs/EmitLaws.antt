pub mod Forms
pub mod Far
pub mod Said
