mod Putting
mod Everywhere
mod Kept
mod Upward
mod Near
