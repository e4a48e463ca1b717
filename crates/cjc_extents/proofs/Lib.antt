mod Items
mod Setting
mod Finding
mod Counting
mod Joining
mod Inside
mod Starts
