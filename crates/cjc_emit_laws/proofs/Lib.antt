mod Forms
mod Far
mod Said
